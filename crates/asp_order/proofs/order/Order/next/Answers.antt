use Rattle.asp_order.proofs.WaitingLaws.{waiting_next}
use Rattle.asp_order.proofs.order.Order.next.Goals as goal

pub returns-then-is_none-clause-waiting : goal.returns-then-is_none-clause-waiting
returns-then-is_none-clause-waiting c =
    waiting_next c.args.trail.now.vars c.args.trail.now.entries c.loop-var.self c.pop.new.self c.in-Some.var c.in-Some.ensures.some c.loop-var.invariant.1
