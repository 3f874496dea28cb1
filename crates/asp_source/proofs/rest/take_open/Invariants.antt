use Rattle.std.proofs.Common.{◌≤◌}
use Rattle.asp_source.proofs.rest.take_open.Given as goal

abbrev pub invariant-loop-left : goal.invariant-loop-left
invariant-loop-left l = l.left ≤ l.initial.left

abbrev pub decreases-loop-left : goal.decreases-loop-left
decreases-loop-left l = l.left
