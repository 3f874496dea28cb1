use Rattle.std.proofs.Common.{◌-◌, ◌≤◌, length}
use Rattle.asp_rows.specs.Places.{IsBehind}
use Rattle.asp_rows.proofs.place.count_below.Given as goal

abbrev pub invariant-loop-low : goal.invariant-loop-low
invariant-loop-low l = IsBehind l.atoms l.low l.atom × (l.high ≤ length l.atoms)

abbrev pub decreases-loop-low : goal.decreases-loop-low
decreases-loop-low l = l.high - l.low
