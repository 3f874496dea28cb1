use Rattle.std.proofs.Common.{◌≡◌, take}
use Rattle.asp_read.proofs.asked.copy_of_rules.Given as goal

abbrev pub invariant-loop-i : goal.invariant-loop-i
invariant-loop-i l = l.copy ≡ take l.i l.rules
