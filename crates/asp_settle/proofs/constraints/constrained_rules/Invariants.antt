use Rattle.std.proofs.Common.{◌≡◌, take, map}
use Rattle.asp_settle.specs.Constraints.{constrained_rule}
use Rattle.asp_settle.proofs.constraints.constrained_rules.Given as goal

abbrev pub invariant-loop-i : goal.invariant-loop-i
invariant-loop-i l = l.left ≡ map (constrained_rule l.denied) (take l.i l.rules)
