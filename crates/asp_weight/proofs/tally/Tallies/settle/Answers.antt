use Rattle.std.proofs.Common.{refl, arith}
use Rattle.asp_weight.proofs.QueueLaws.{leaves, last_within}
use Rattle.asp_weight.proofs.tally.Tallies.settle.Goals as goal

pub index_mut-requires : goal.index_mut-requires
index_mut-requires c =
    omega (arith, c.self.inside.tallies.ok.0, last_within c.self.inside.tallies.items c.self.inside.queue.items c.pop.new.self.items _ c.in-Some.body c.self.invariant c.in-Some.ensures.items)

pub invariant_of-self : goal.invariant_of-self
invariant_of-self c =
    rw c.in-Some.ensures.capacity
    (leaves c.self.inside.tallies.items c.self.inside.queue.items c.pop.new.self.items _ c.in-Some.body _ c.self.invariant c.in-Some.ensures.items refl)
