use Rattle.std.proofs.Common.{◌≡◌, length}
use Rattle.asp_order.proofs.order.lift.Given as goal

abbrev pub invariant-loop : goal.invariant-loop
invariant-loop l = (l.heap.members ≡ l.initial.heap.members) × (length l.heap.activities ≡ length l.initial.heap.activities)
