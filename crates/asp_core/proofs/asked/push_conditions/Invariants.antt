use Rattle.std.proofs.Common.{◌≡◌, ◌++◌, take, map, flat_map}
use Rattle.asp_model.specs.Holding.{atom_of}
use Rattle.asp_core.proofs.asked.push_conditions.Given as goal

abbrev pub invariant-loop-i : goal.invariant-loop-i
invariant-loop-i l = l.atoms.items ≡ l.initial.atoms.items ++ flat_map (λ o. map atom_of o.condition) (take l.i l.outputs)
