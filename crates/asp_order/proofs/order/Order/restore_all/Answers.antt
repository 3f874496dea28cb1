use Rattle.std.proofs.Common.{arith}
use Rattle.asp_order.proofs.WaitingLaws.{all_in}
use Rattle.asp_order.proofs.order.Order.restore_all.Goals as goal

pub returns-clause-all : goal.returns-clause-all
returns-clause-all c =
    all_in c.args.trail.now.vars c.args.trail.now.entries c.args.self.now c.loop-i.self c.loop-i.invariant.fuller
    (λ i d h. c.loop-i.invariant.restored i d (omega (arith, h, c.loop-i-test.false, c.len-i-end.ensures.len)))
