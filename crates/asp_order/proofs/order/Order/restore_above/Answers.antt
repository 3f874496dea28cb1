use Rattle.std.proofs.Common.{arith}
use Rattle.asp_order.proofs.WaitingLaws.{waiting_above, above_in, low_before}
use Rattle.asp_order.proofs.order.Order.restore_above.Goals as goal

pub returns-then-level_at-level-clause-above : goal.returns-then-level_at-level-clause-above
returns-then-level_at-level-clause-above c =
    let es = c.args.trail.now.entries in
    let from = c.loop-i.i in
    above_in es c.args.level from c.loop-i.self c.loop-i.invariant.restored
    (low_before c.args.trail.now.vars es c.args.level from c.len-i.ensures.ordered (omega arith) (omega arith)
    (λ d. omega (arith, c.level_at.ensures d, c.if-level_at-level.true)))

pub returns-then-level_at-level-clause-waiting : goal.returns-then-level_at-level-clause-waiting
returns-then-level_at-level-clause-waiting c =
    let es = c.args.trail.now.entries in
    let from = c.loop-i.i in
    waiting_above c.args.trail.now.vars es c.args.level from c.args.self.now c.loop-i.self c.len-i.ensures.ordered c.loop-i.invariant.fuller c.loop-i.invariant.restored
    (low_before c.args.trail.now.vars es c.args.level from c.len-i.ensures.ordered (omega arith) (omega arith)
    (λ d. omega (arith, c.level_at.ensures d, c.if-level_at-level.true)))

pub returns-clause-waiting : goal.returns-clause-waiting
returns-clause-waiting c =
    waiting_above c.args.trail.now.vars c.args.trail.now.entries c.args.level 0 c.args.self.now c.loop-i.self c.len-i.ensures.ordered c.loop-i.invariant.fuller
    (λ i d l h. c.loop-i.invariant.restored i d (omega arith) h) (λ i d l h. absurd (omega arith))
