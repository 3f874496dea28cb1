use Rattle.std.proofs.Common.{length}
use Rattle.asp_counts.specs.Telling.{AreNumbered}
use Rattle.asp_counts.proofs.tallies.Tallies.into_counts.Given as goal

abbrev pub invariant-loop-i : goal.invariant-loop-i
invariant-loop-i l = AreNumbered (length l.fn.self.told.items) l.worker-items
