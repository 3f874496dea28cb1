use Rattle.std.proofs.Common.{◌≡◌, replicate, arith, rules}
use Rattle.asp_weight.specs.Tallied.{fresh}
use Rattle.asp_weight.proofs.QueueLaws.{starts}
use Rattle.asp_weight.proofs.tally.Tallies.new.Goals as goal

pub invariant_of-result : goal.invariant_of-result
invariant_of-result c =
    let e : c.in_ok-tallies.tallies.items ≡ replicate c.args.count fresh = search rules in
    starts c.in_ok-tallies.tallies.items c.in_ok-queue.queue.items _ c.args.count e c.in_ok-queue.ensures (omega (arith, c.in_ok-queue.queue.ok.0))
