use Rattle.std.proofs.Common.{◌<◌, length, sym, ap, ◌∙◌, subst}
use Rattle.asp_store.specs.Storing.{Stored}
use Rattle.asp_propagate.specs.Propagating.{Propagating, IsFollowed, IsUnnamed, without_nogood}
use Rattle.asp_propagate.proofs.PropagateLaws.{followed_removed}
use Rattle.asp_propagate.proofs.EngineLaws.{view_of}
use Rattle.asp_propagate.proofs.engine.Engine.remove.Goals as goal

pub remove-requires : goal.remove-requires
remove-requires g c = subst (λ (x : Propagating). c.args.id < length x.slots) (sym c.self.view_is) c.requires.slot

pub invariant_of-self : goal.invariant_of-self
invariant_of-self g c =
    let i = c.self.inside in
    let t = g.P.Propagator.told i.propagator in
    subst (λ (x : Stored). IsFollowed (λ p. g.P.Propagator.explains p (g.P.Propagator.bound c.self.inside.propagator)) t x i.trail i.told) (sym c.remove.ensures)
    (followed_removed (λ p. g.P.Propagator.explains p (g.P.Propagator.bound c.self.inside.propagator)) t i.store i.trail i.told c.args.id
    (subst (λ (x : Propagating). c.args.id < length x.slots) (sym c.self.view_is) c.requires.slot)
    (subst (λ (x : Propagating). IsUnnamed x.entries c.args.id) (sym c.self.view_is) c.requires.unnamed) c.self.invariant)

pub returns : goal.returns
returns g c =
    let i = c.self.inside in
    ap (λ (x : Stored). view_of (g.P.Propagator.told i.propagator) (g.P.Propagator.bound i.propagator) x i.trail) c.remove.ensures
    ∙ ap (λ (x : Propagating). without_nogood x c.args.id) c.self.view_is
