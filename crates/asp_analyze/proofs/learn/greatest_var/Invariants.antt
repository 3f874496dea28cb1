use Rattle.std.proofs.Common.{take}
use Rattle.asp_analyze.specs.Way.{AreUpTo}
use Rattle.asp_analyze.proofs.learn.greatest_var.Given as goal

abbrev pub invariant-loop-i : goal.invariant-loop-i
invariant-loop-i l = AreUpTo l.greatest (take l.i l.trail.entries)
