use Rattle.std.proofs.Common.{Some, refl, sym, ap, ◌∙◌, subst}
use Rattle.asp_trail.specs.Told.{Told}
use Rattle.asp_propagate.specs.Useful.{IsSmaller}
use Rattle.asp_propagate.specs.Propagating.{Propagating, IsFollowed}
use Rattle.asp_propagate.proofs.PropagateLaws.{followed_lower, followed_bound}
use Rattle.asp_propagate.proofs.EngineLaws.{same_view}
use Rattle.asp_propagate.proofs.engine.Engine.set_bound.Goals as goal

pub set_bound-requires : goal.set_bound-requires
set_bound-requires g c = subst (λ (x : Propagating). IsSmaller c.args.cost x.bound) (sym c.self.view_is) c.requires

pub invariant_of-self : goal.invariant_of-self
invariant_of-self g c =
    let i = c.self.inside in
    let t = g.P.Propagator.told i.propagator in
    let b = g.P.Propagator.bound i.propagator in
    let smaller = subst (λ (x : Propagating). IsSmaller c.args.cost x.bound) (sym c.self.view_is) c.requires in
    let u = g.P.Propagator.told c.set_bound.new.self in
    let lower = followed_lower g.P.Propagator.explains b c.args.cost t i.store i.trail i.told (λ es l name x. g.met.P.Propagator.stands t.program b c.args.cost es l name smaller x) c.self.invariant in
    followed_bound g.P.Propagator.explains (Some c.args.cost) (g.P.Propagator.bound c.set_bound.new.self) u i.store i.trail i.told c.set_bound.ensures.bound
    (subst (λ (x : Told). IsFollowed (λ p. g.P.Propagator.explains p (Some c.args.cost)) x i.store i.trail i.told) (sym c.set_bound.ensures.stays) lower)

pub returns : goal.returns
returns g c =
    let i = c.self.inside in
    same_view (g.P.Propagator.told c.set_bound.new.self).program (g.P.Propagator.told i.propagator).program i.trail.entries i.trail.entries i.store.slots
    (g.P.Propagator.bound c.set_bound.new.self) (Some c.args.cost) (ap (λ (t : Told). t.program) c.set_bound.ensures.stays) refl c.set_bound.ensures.bound
    ∙ ap (λ (x : Propagating). record x { bound = Some c.args.cost }) c.self.view_is
