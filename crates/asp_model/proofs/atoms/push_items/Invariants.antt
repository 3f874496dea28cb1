use Rattle.std.proofs.Common.{◌≡◌, ◌++◌, take, map}
use Rattle.asp_model.specs.Holding.{atom_of}
use Rattle.asp_model.proofs.atoms.push_items.Given as goal

abbrev pub invariant-loop-literal : goal.invariant-loop-literal
invariant-loop-literal l = l.atoms.items ≡ l.initial.atoms.items ++ map (λ item. atom_of item.0) (take l.literal-index l.items)
