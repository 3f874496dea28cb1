use Rattle.asp_counts.specs.Telling.{IsSumWith}
use Rattle.asp_counts.proofs.tallies.sum_with.Given as goal

abbrev pub invariant-loop-i : goal.invariant-loop-i
invariant-loop-i g l = IsSumWith l.i l.place l.own l.sum
