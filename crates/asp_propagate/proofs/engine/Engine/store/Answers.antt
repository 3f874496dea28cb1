use Rattle.std.proofs.Common.{ℕ, subst}
use Rattle.asp_model.specs.Sound.{IsSound}
use Rattle.asp_vars.specs.Numbering.{var_count}
use Rattle.asp_trail.specs.Trails.{IsOrdered}
use Rattle.asp_store.specs.Fitting.{HaveReasons}
use Rattle.asp_trail.specs.Reasons.{AreAsked, AreReasons, AreImpliedBy}
use Rattle.asp_propagate.specs.Late.{CanAsk, IsSaid, IsAtHand}
use Rattle.asp_propagate.proofs.LateLaws.{all_asked, all_said, all_implied}
use Rattle.asp_propagate.specs.Propagating.{Propagating}
use Rattle.asp_propagate.proofs.engine.Engine.store.Goals as goal

pub returns-clause-reasons : goal.returns-clause-reasons
returns-clause-reasons g c = subst (λ (x : Propagating). HaveReasons x.slots x.entries) c.self.view_is c.self.invariant.fits.reasons

pub returns-clause-asked : goal.returns-clause-asked
returns-clause-asked g c =
    let i = c.self.inside in
    subst (λ (x : Propagating). AreAsked (CanAsk (g.P.Propagator.explains x.program x.bound) x.slots x.entries) x.entries) c.self.view_is
    (all_asked (g.P.Propagator.explains (g.P.Propagator.told i.propagator).program (g.P.Propagator.bound i.propagator)) i.store.slots i.trail.entries
    c.self.invariant.fits.reasons c.self.invariant.explained)

pub returns-clause-said : goal.returns-clause-said
returns-clause-said g c =
    let i = c.self.inside in
    subst (λ (x : Propagating). AreReasons (IsSaid (g.P.Propagator.late x.program x.bound) x.slots x.entries) x.entries) c.self.view_is
    (all_said (g.P.Propagator.late (g.P.Propagator.told i.propagator).program (g.P.Propagator.bound i.propagator)) i.store.slots i.trail.entries c.self.invariant.fits.reasons)

pub returns-clause-implied : goal.returns-clause-implied
returns-clause-implied g c =
    let i = c.self.inside in
    let p = (g.P.Propagator.told i.propagator).program in
    let b = g.P.Propagator.bound i.propagator in
    subst (λ (x : Propagating). IsSound x.program → AreImpliedBy (IsAtHand (g.P.Propagator.late x.program x.bound) x.slots) x.entries) c.self.view_is
    (λ sound.
    all_implied (var_count p) (g.P.Propagator.explains p b) (g.P.Propagator.late p b) i.store.slots i.trail.entries (λ fs l name o w. g.met.P.Propagator.reasoned p b fs l name sound o w)
    (subst (λ (n : ℕ). IsOrdered n i.trail.entries) c.self.invariant.told.vars c.len-len.ensures.ordered) c.self.invariant.fits.reasons c.self.invariant.explained)
