use Rattle.asp_counts.specs.Telling.{AreNumbered}
use Rattle.asp_counts.proofs.tallies.numbered.Given as goal

abbrev pub invariant-loop-i : goal.invariant-loop-i
invariant-loop-i l = AreNumbered l.i l.all.items
