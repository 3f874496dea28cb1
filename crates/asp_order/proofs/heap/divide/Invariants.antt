use Rattle.std.proofs.Common.{◌≡◌, ◌/◌, ◌^◌, ◌++◌, map, take, drop}
use Rattle.asp_order.proofs.heap.divide.Given as goal

abbrev pub invariant-loop-activity : goal.invariant-loop-activity
invariant-loop-activity l = l.activities ≡ map (λ a. a / 2 ^ 30) (take l.activity-index l.fn.activities) ++ drop l.activity-index l.fn.activities
