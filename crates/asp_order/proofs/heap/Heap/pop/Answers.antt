use Rattle.std.proofs.Common.{ℕ, sym, subst}
use Rattle.std.specs.Vec.{vec_capacity}
use Rattle.asp_order.specs.Heaps.{Ranking, IsFirst}
use Rattle.asp_order.proofs.RankedLaws.{first_is_first}
use Rattle.asp_order.proofs.heap.Heap.pop.Goals as goal

pub returns-clause-first : goal.returns-clause-first
returns-clause-first c =
    let h : Ranking = record { activities = c.self.inside.activities.items; members = c.self.inside.members.items; increment = c.self.inside.increment } in
    let first = c.in_ok-var.ensures.some in
    subst (λ (g : Ranking). IsFirst g c.in_ok-var.var) c.self.view_is
    (subst (λ (v : ℕ). IsFirst h v) (sym first.1)
    (first_is_first h c.self.inside.places.items c.self.inside.items.items (vec_capacity c.self.inside.items) c.self.invariant first.0))
