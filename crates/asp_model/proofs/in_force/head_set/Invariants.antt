use Rattle.std.proofs.Common.{◌≡◌, take, flat_map}
use Rattle.asp_model.specs.Models.{head_atoms}
use Rattle.asp_model.proofs.in_force.head_set.Given as goal

abbrev pub invariant-loop-i : goal.invariant-loop-i
invariant-loop-i l = l.atoms.items ≡ flat_map (λ r. head_atoms r.head) (take l.i l.rules)
