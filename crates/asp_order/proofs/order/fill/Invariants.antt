use Rattle.std.proofs.Common.{◌≡◌, ◌-◌}
use Rattle.asp_order.specs.Waiting.{fresh}
use Rattle.asp_order.proofs.HeapLaws.{filled}
use Rattle.asp_order.proofs.order.fill.Given as goal

abbrev pub invariant-loop-i : goal.invariant-loop-i
invariant-loop-i l = l.heap ≡ record (fresh l.vars) { members = filled l.i (l.vars - l.i) }
