use Rattle.std.proofs.Common.{ℕ, List, Option, length, ap, ◌∙◌, subst, arith}
use Rattle.asp_model.specs.Sound.{IsSound}
use Rattle.asp_vars.specs.Numbering.{var_count}
use Rattle.asp_store.specs.declared.stored_nogood.StoredNogood.{StoredNogood}
use Rattle.asp_store.specs.Fitting.{AreSmall, HaveReasons}
use Rattle.asp_trail.specs.Reasons.{AreImpliedBy}
use Rattle.asp_propagate.specs.Late.{IsAtHand}
use Rattle.asp_state.specs.SearchStates.{SearchView, KeepsCompletion}
use Rattle.asp_state.proofs.state.SearchState.store.Goals as goal

pub returns-clause-reasons : goal.returns-clause-reasons
returns-clause-reasons g c = subst (λ (t : SearchView). HaveReasons t.slots t.entries) c.self.view_is c.store-2.ensures.reasons

pub returns-clause-implied : goal.returns-clause-implied
returns-clause-implied g c =
    subst (λ (t : SearchView). IsSound t.program → AreImpliedBy (IsAtHand (g.P.Propagator.late t.program t.bound) t.slots) t.entries) c.self.view_is c.store-2.ensures.implied

pub returns-clause-few : goal.returns-clause-few
returns-clause-few g c =
    let slots = c.store.ensures.slots ∙ ap (λ (t : SearchView). t.slots) c.self.view_is in
    omega (arith, c.extra-extra.ensures.few, ap (length {A = Option StoredNogood}) slots)

pub returns-clause-small : goal.returns-clause-small
returns-clause-small g c =
    subst (λ (t : SearchView). AreSmall (var_count t.program) t.slots) c.self.view_is
    (subst (λ (n : ℕ). AreSmall n c.self.inside.engine.slots) c.store.ensures.vars
    (subst (λ (xs : List (Option StoredNogood)). AreSmall c.store.result.now.vars xs) c.store.ensures.slots c.extra-extra.ensures.small))

pub returns-clause-completed : goal.returns-clause-completed
returns-clause-completed g c = subst (λ (t : SearchView). KeepsCompletion t.program t.slots) c.self.view_is c.self.invariant.0.completed
