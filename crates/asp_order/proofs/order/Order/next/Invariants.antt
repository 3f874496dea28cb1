use Rattle.std.proofs.Common.{◌≡◌}
use Rattle.std.specs.List.{count_by}
use Rattle.asp_order.specs.Waiting.{AreWaiting}
use Rattle.asp_order.proofs.order.Order.next.Given as goal

abbrev pub invariant-loop-var : goal.invariant-loop-var
invariant-loop-var l =
    (l.self ≡ record l.initial.self { members = l.self.members }) × AreWaiting l.trail.vars l.trail.entries l.self

abbrev pub decreases-loop-var : goal.decreases-loop-var
decreases-loop-var l = count_by (λ b. b) l.self.members
