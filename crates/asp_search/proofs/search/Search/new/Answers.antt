use Rattle.std.proofs.Common.{◌≡◌, List, [], None, sym, ap, ◌∙◌, subst}
use Rattle.std.specs.Prelude.{ℕ}
use Rattle.asp_model.specs.Asked.{reasoning_of}
use Rattle.asp_model.specs.Consequences.{used_up}
use Rattle.asp_model.specs.Sets.{Atoms}
use Rattle.asp_state.specs.SearchStates.{SearchView}
use Rattle.asp_search.specs.Beside.{new_search}
use Rattle.asp_search.specs.Invariants.{IsSearch, answers_known, used_in, view_of}
use Rattle.asp_search.proofs.BesideLaws.{first_state, search_begins, search_is_new, unbounded_state}
use Rattle.asp_search.proofs.MeetLaws.{none_used}
use Rattle.asp_search.proofs.search.Search.new.Goals as goal

pub invariant_of-result : goal.invariant_of-result
invariant_of-result g c =
    let p = c.args.compiled.now in
    let t : SearchView = c.in_ok-state.state in
    let e : t ≡ first_state p t.slots = unbounded_state p _ t c.requires.unbounded c.in_ok-state.ensures.same in
    let first : IsSearch p c.args.mode t c.in_ok-learner.learner c.in_ok-checker.checker [] [] None None =
    search_begins p c.args.mode t c.in_ok-learner.learner c.in_ok-checker.checker c.program-program.ensures.sound (c.in_ok-learner.ensures ∙ c.vars-vars.ensures.count) c.in_ok-checker.ensures
    c.in_ok-state.ensures.slots e in
    let seen = c.in_ok-seen.seen in
    let none : used_in p c.args.mode [] seen ≡ [] = ap (used_up (reasoning_of c.args.mode) p) c.in_ok-seen.ensures.known ∙ none_used (reasoning_of c.args.mode) p in (
      subst (λ (ks : List Atoms). IsSearch p c.args.mode t c.in_ok-learner.learner c.in_ok-checker.checker (used_in p c.args.mode ks seen) c.new-7.result.items None None) (sym c.new-6.ensures.items)
          (subst (λ (blocking : List ℕ). IsSearch p c.args.mode t c.in_ok-learner.learner c.in_ok-checker.checker (used_in p c.args.mode [] seen) blocking None None) (sym c.new-7.ensures.items)
          (subst (λ (ks : List Atoms). IsSearch p c.args.mode t c.in_ok-learner.learner c.in_ok-checker.checker ks [] None None) (sym none) first)),
      c.in_ok-seen.ensures.seen,
    )

pub returns-clause-same : goal.returns-clause-same
returns-clause-same g c =
    let p = c.args.compiled.now in
    let t : SearchView = c.in_ok-state.state in
    let e : t ≡ first_state p t.slots = unbounded_state p _ t c.requires.unbounded c.in_ok-state.ensures.same in
    subst (λ (ks : List Atoms). view_of c.args.mode t c.new-4.result (answers_known ks c.in_ok-seen.seen) None ≡ new_search p c.args.mode t.slots) (sym c.new-6.ensures.items)
    (subst (λ (ks : List Atoms). view_of c.args.mode t c.new-4.result ks None ≡ new_search p c.args.mode t.slots) (sym c.in_ok-seen.ensures.known)
    (search_is_new p c.args.mode t c.new-4.result e c.new-4.ensures))
