use Rattle.std.proofs.Common.{◌≡◌, take, flat_map}
use Rattle.asp_settle.specs.Settled.{settled_rule}
use Rattle.asp_settle.proofs.rules.left_rules.Given as goal

abbrev pub invariant-loop-i : goal.invariant-loop-i
invariant-loop-i l = l.left ≡ flat_map (settled_rule l.facts) (take l.i l.rules)
