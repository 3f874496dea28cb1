use Rattle.std.proofs.Common.{◌≡◌, ◌++◌, take, flat_map}
use Rattle.asp_model.specs.Holding.{body_atoms}
use Rattle.asp_model.specs.Models.{head_atoms}
use Rattle.asp_model.proofs.atoms.push_rules.Given as goal

abbrev pub invariant-loop-i : goal.invariant-loop-i
invariant-loop-i l = l.atoms.items ≡ l.initial.atoms.items ++ flat_map (λ r. head_atoms r.head ++ body_atoms r.body) (take l.i l.rules)
