use Rattle.std.proofs.Common.{◌≡◌, length}
use Rattle.asp_counts.proofs.tallies.locks.Given as goal

abbrev pub invariant-loop-i : goal.invariant-loop-i
invariant-loop-i l = length l.all.items ≡ l._i
