use Rattle.std.proofs.Common.{◌≡◌, false, take, map, flat_map}
use Rattle.asp_model.specs.Holding.{atom_of}
use Rattle.asp_settle.specs.Tables.{with_flags}
use Rattle.asp_settle.proofs.facts.lower_minimized.Given as goal

abbrev pub invariant-loop-statement : goal.invariant-loop-statement
invariant-loop-statement l = l.flags ≡ with_flags false l.initial.flags (flat_map (λ m. map (λ item. atom_of item.0) m.items) (take l.statement-index l.statements))
