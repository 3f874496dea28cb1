use Rattle.std.proofs.Common.{◌≡◌, ℕ, ◌≤◌, ◌^◌, List, length, Option, sym, ap, subst, ◌∙◌}
use Rattle.std.specs.Result.{IfOk}
use Rattle.asp_trail.specs.Trails.{Trailed}
use Rattle.asp_store.specs.declared.stored_nogood.StoredNogood.{StoredNogood}
use Rattle.asp_store.specs.Fitting.{Extends}
use Rattle.asp_store.specs.Sounding.{IsSound}
use Rattle.asp_store.specs.Storing.{Stored, Fits}
use Rattle.asp_store.specs.Walking.{Propagates}
use Rattle.asp_store.proofs.StoreLaws.{sound_from_fits, fits_from_sound, store_from_sound}
use Rattle.asp_store.proofs.store.Store.propagate.Goals as goal

pub propagate-requires-clause-sound : goal.propagate-requires-clause-sound
propagate-requires-clause-sound c =
    let i = c.self.inside in
    let fits = subst (λ (s : Stored). Fits s c.args.trail.now) (sym c.self.view_is) c.requires.fits in
    subst (λ (xs : List (Option StoredNogood)). IsSound xs i.watches c.args.trail.now) (sym c.as_slice.ensures.value)
    (sound_from_fits i.vars i.slots.items i.watches i.given.items i.extra c.args.trail.now c.self.invariant fits)

pub invariant_of-self : goal.invariant_of-self
invariant_of-self c =
    let i = c.self.inside in
    let after = c.propagate.new.trail in
    let fits = subst (λ (s : Stored). Fits s c.args.trail.now) (sym c.self.view_is) c.requires.fits in
    let vars : after.vars ≡ i.vars = ap (λ (s : Trailed). s.vars) c.propagate.ensures.same ∙ fits.same_vars in
    store_from_sound i.vars i.slots.items i.watches c.propagate.new.watches i.given.items i.extra after vars c.self.invariant
    (subst (λ (xs : List (Option StoredNogood)). IsSound xs c.propagate.new.watches after) c.as_slice.ensures.value c.propagate.ensures.sound)

pub returns-clause-extends : goal.returns-clause-extends
returns-clause-extends c =
    subst (λ (xs : List (Option StoredNogood)). Extends xs c.args.trail.now.entries c.propagate.new.trail.entries)
    (c.as_slice.ensures.value ∙ ap (λ (s : Stored). s.slots) c.self.view_is) c.propagate.ensures.extends

pub returns-clause-fits : goal.returns-clause-fits
returns-clause-fits c =
    let i = c.self.inside in
    let after = c.propagate.new.trail in
    let fits = subst (λ (s : Stored). Fits s c.args.trail.now) (sym c.self.view_is) c.requires.fits in
    let extends = subst (λ (xs : List (Option StoredNogood)). Extends xs c.args.trail.now.entries after.entries) c.as_slice.ensures.value c.propagate.ensures.extends in
    let vars : after.vars ≡ i.vars = ap (λ (s : Trailed). s.vars) c.propagate.ensures.same ∙ fits.same_vars in
    fits_from_sound i.vars i.slots.items c.propagate.new.watches i.given.items after vars (extends.2 fits.reasons)
    (subst (λ (xs : List (Option StoredNogood)). IsSound xs c.propagate.new.watches after) c.as_slice.ensures.value c.propagate.ensures.sound)

pub returns-clause-propagates : goal.returns-clause-propagates
returns-clause-propagates c =
    let after = c.propagate.new.trail in
    let vars : after.vars ≡ c.args.self.now.vars = ap (λ (s : Trailed). s.vars) c.propagate.ensures.same ∙ c.requires.fits.same_vars in
    subst (λ (n : ℕ). IfOk c.propagate.result (Propagates n c.args.self.now.slots after.entries)) vars
    (subst (λ (xs : List (Option StoredNogood)). IfOk c.propagate.result (Propagates after.vars xs after.entries)) (c.as_slice.ensures.value ∙ ap (λ (s : Stored). s.slots) c.self.view_is)
    c.propagate.ensures.propagates)

pub returns-clause-few : goal.returns-clause-few
returns-clause-few c = subst (λ (s : Stored). length s.slots ≤ 2 ^ 31) c.self.view_is c.self.invariant.net.numbered
