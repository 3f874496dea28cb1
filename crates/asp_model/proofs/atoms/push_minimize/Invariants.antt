use Rattle.std.proofs.Common.{◌≡◌, ◌++◌, take, map, flat_map}
use Rattle.asp_model.specs.Holding.{atom_of}
use Rattle.asp_model.proofs.atoms.push_minimize.Given as goal

abbrev pub invariant-loop-statement : goal.invariant-loop-statement
invariant-loop-statement l = l.atoms.items ≡ l.initial.atoms.items ++ flat_map (λ m. map (λ item. atom_of item.0) m.items) (take l.statement-index l.statements)
