use Rattle.std.proofs.Common.{arith}
use Rattle.asp_source.proofs.QueueLaws.{starts}
use Rattle.asp_source.proofs.queue.Queue.new.Goals as goal

pub invariant_of-result : goal.invariant_of-result
invariant_of-result c =
    starts c.in_ok-marks.marks.items c.in_ok-queue.queue.items _ c.args.count (c.in_ok-marks.ensures.items_if_clones_equal (λ y q. q))
    c.in_ok-queue.ensures.items (omega (arith, c.in_ok-queue.ensures.capacity))
