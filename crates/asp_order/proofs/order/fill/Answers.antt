use Rattle.asp_order.proofs.HeapLaws.{fill_step}
use Rattle.asp_order.proofs.order.fill.Goals as goal

pub loop-i-preserved : goal.loop-i-preserved
loop-i-preserved c = fill_step c.args.vars c.loop-i.i c.loop-i.heap c.push.new.self c.loop-i-test.true c.loop-i.invariant c.push.ensures
