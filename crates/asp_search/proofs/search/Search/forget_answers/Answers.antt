use Rattle.std.proofs.Common.{◌≡◌, [], ap, ◌∙◌, subst}
use Rattle.asp_model.specs.Asked.{reasoning_of}
use Rattle.asp_model.specs.Consequences.{used_up}
use Rattle.asp_model.specs.declared.results.Mode.{Mode}
use Rattle.asp_model.specs.declared.results.Mode.TheVariants as mode
use Rattle.asp_store.specs.Keeping.{kept_at, unless_local}
use Rattle.asp_search_laws.specs.Searching.{Searching}
use Rattle.asp_state.specs.SearchStates.{SearchView}
use Rattle.asp_search.specs.Invariants.{IsSeen, answers_known, used_in}
use Rattle.asp_search.proofs.ForgetLaws.{forgets_from, none_known, search_forgets}
use Rattle.asp_search.proofs.MeetLaws.{none_used}
use Rattle.asp_search.proofs.search.Search.forget_answers.Goals as goal

pub drop_local-requires : goal.drop_local-requires
drop_local-requires g c = ap (λ (x : SearchView). x.entries) c.leave.ensures.same

pub invariant_of-self : goal.invariant_of-self
invariant_of-self g c =
    let i = c.self.inside in
    let p = i.compiled.now in
    let u : SearchView = c.drop_local.new.state in
    let ks = c.clear.new.self.items in
    let enum : i.mode ≡ mode.Enum = ap (λ (x : Searching). x.mode) c.self.view_is ∙ c.requires in
    let none : answers_known ks i.seen ≡ [] = none_known p ks i.seen c.clear.ensures.items (subst (λ (m : Mode). IsSeen (reasoning_of m) p i.seen) enum c.self.invariant.1) in (
      search_forgets p i.mode i.state u i.learner i.checker (used_in p i.mode i.known.items i.seen) (used_in p i.mode ks i.seen) i.blocking.items c.clear-2.new.self.items
          i.bound i.last (ap (λ (x : SearchView). x.program) c.drop_local.ensures.same ∙ ap (λ (x : SearchView). x.program) c.leave.ensures.same)
          (ap (λ (x : SearchView). x.bound) c.drop_local.ensures.same ∙ ap (λ (x : SearchView). x.bound) c.leave.ensures.same)
          (λ id. c.drop_local.ensures.each id ∙ ap (λ (x : SearchView). unless_local (kept_at x.slots id)) c.leave.ensures.same)
          (ap (used_up (reasoning_of i.mode) p) none ∙ none_used (reasoning_of i.mode) p) c.clear-2.ensures.items c.self.invariant.0,
      c.self.invariant.1,
    )

pub returns : goal.returns
returns g c =
    let i = c.self.inside in
    let p = i.compiled.now in
    let ks = c.clear.new.self.items in
    let enum : i.mode ≡ mode.Enum = ap (λ (x : Searching). x.mode) c.self.view_is ∙ c.requires in
    forgets_from i.mode i.state c.leave.new.self c.drop_local.new.state i.pace (answers_known i.known.items i.seen) (answers_known ks i.seen) i.last c.args.self.now c.self.view_is
    (none_known p ks i.seen c.clear.ensures.items (subst (λ (m : Mode). IsSeen (reasoning_of m) p i.seen) enum c.self.invariant.1))
    c.leave.ensures.same c.drop_local.ensures.same c.drop_local.ensures.each
