use Rattle.asp_order.proofs.HeapLaws.{aged_more, aged_never}
use Rattle.asp_order.proofs.order.decay_all.Goals as goal

pub loop-init : goal.loop-init
loop-init c = aged_never c.args.heap.now

pub loop-preserved : goal.loop-preserved
loop-preserved c = aged_more c.args.heap.now c.loop.heap c.decay.new.self c.loop.counter c.loop.invariant c.decay.ensures
