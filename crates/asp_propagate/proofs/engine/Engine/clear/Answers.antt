use Rattle.std.proofs.Common.{List, [], Option, sym, ap, ◌∙◌, subst}
use Rattle.asp_store.specs.declared.stored_nogood.StoredNogood.{StoredNogood}
use Rattle.asp_store.specs.Storing.{Stored}
use Rattle.asp_trail.specs.Trails.{Trailed}
use Rattle.asp_propagate.specs.Propagating.{Propagating, IsFollowed}
use Rattle.asp_propagate.proofs.PropagateLaws.{followed_clear, followed_bound}
use Rattle.asp_propagate.proofs.EngineLaws.{same_view}
use Rattle.asp_propagate.proofs.engine.Engine.clear.Goals as goal

pub invariant_of-self : goal.invariant_of-self
invariant_of-self g c =
    let i = c.self.inside in
    let q = c.recall.ensures in
    let new = c.untell.new.propagator in
    subst (λ (x : Trailed). IsFollowed (λ p. g.P.Propagator.explains p (g.P.Propagator.bound new)) (g.P.Propagator.told c.untell.new.propagator) c.recall.new.self x 0) (sym c.clear.ensures)
    (followed_clear (λ p. g.P.Propagator.explains p (g.P.Propagator.bound new)) (g.P.Propagator.told i.propagator)
    (g.P.Propagator.told c.untell.new.propagator) i.store c.recall.new.self i.trail i.told q.recalled q.active
    c.untell.ensures.told
    (followed_bound g.P.Propagator.explains (g.P.Propagator.bound i.propagator) (g.P.Propagator.bound new) (g.P.Propagator.told i.propagator) i.store
    i.trail i.told c.untell.ensures.bound c.self.invariant))

pub returns : goal.returns
returns g c =
    let i = c.self.inside in
    let p = (g.P.Propagator.told c.untell.new.propagator).program in
    let b = g.P.Propagator.bound c.untell.new.propagator in
    let with_slots : List (Option StoredNogood) → Propagating = λ xs. record { program = p; entries = c.clear.new.self.entries; slots = xs; bound = b } in
    ap with_slots (ap (λ (x : Stored). x.slots) c.recall.ensures.recalled)
    ∙ (same_view p (g.P.Propagator.told i.propagator).program c.clear.new.self.entries [] i.store.slots b (g.P.Propagator.bound i.propagator) c.untell.ensures.program
    (ap (λ (x : Trailed). x.entries) c.clear.ensures) c.untell.ensures.bound
    ∙ ap (λ (x : Propagating). record x { entries = [] }) c.self.view_is)
