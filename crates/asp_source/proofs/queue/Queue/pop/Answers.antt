use Rattle.std.proofs.Common.{◌<◌, Bool, false, List, set, count_by, refl, subst, arith}
use Rattle.std.specs.Vec.{vec_capacity}
use Rattle.asp_source.proofs.QueueLaws.{leaves, last_within, fewer}
use Rattle.asp_source.proofs.queue.Queue.pop.Goals as goal

pub index_mut-requires : goal.index_mut-requires
index_mut-requires c =
    omega (
      arith,
      c.self.inside.marks.ok.0,
      (last_within c.self.inside.marks.items c.self.inside.queue.items c.pop.new.self.items _ c.in_ok-number.number c.self.invariant
          c.in_ok-number.ensures.items).0,
    )

pub invariant_of-self-2 : goal.invariant_of-self-2
invariant_of-self-2 c =
    rw c.pop.ensures.capacity
    (leaves c.self.inside.marks.items c.self.inside.queue.items c.pop.new.self.items (vec_capacity c.self.inside.queue) c.in_ok-number.number
    false c.self.invariant c.in_ok-number.ensures.items refl)

pub returns-clause-fewer : goal.returns-clause-fewer
returns-clause-fewer c =
    let at = last_within c.self.inside.marks.items c.self.inside.queue.items c.pop.new.self.items _ c.in_ok-number.number c.self.invariant c.in_ok-number.ensures.items in
    subst (λ (m : List Bool). count_by (λ b. b) (set c.self.inside.marks.items c.in_ok-number.number false) < count_by (λ b. b) m) c.self.view_is
    (fewer c.self.inside.marks.items c.in_ok-number.number at.0 at.1)
