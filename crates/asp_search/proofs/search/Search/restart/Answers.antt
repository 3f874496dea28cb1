use Rattle.std.proofs.Common.{◌≡◌, ℕ, List, Option, None, sym, ap, ◌∙◌, subst}
use Rattle.asp_store.specs.declared.stored_nogood.StoredNogood.{StoredNogood}
use Rattle.asp_propagate.specs.Propagating.{IsReduced}
use Rattle.asp_search_laws.specs.Searching.{Searching}
use Rattle.asp_state.specs.SearchStates.{SearchView}
use Rattle.asp_search.specs.Invariants.{IsSearch, used_in}
use Rattle.asp_search.proofs.SearchLaws.{search_reduced}
use Rattle.asp_search.proofs.search.Search.restart.Goals as goal

pub invariant_of-self : goal.invariant_of-self
invariant_of-self g c =
    let i = c.self.inside in
    let es = c.undo_to.new.self.entries in
    let undo = c.undo_to.ensures.same in
    let same = c.forget.ensures.same in
    let none : i.last ≡ None = ap (λ (s : Searching). s.last) c.self.view_is ∙ c.requires.last in
    let reduced : IsReduced es i.state.slots c.forget.new.state.slots =
    subst (λ (xs : List (Option StoredNogood)). IsReduced es xs c.forget.new.state.slots) (ap (λ (x : SearchView). x.slots) undo) c.forget.ensures.reduced in (
      subst (λ (x : Option ℕ). IsSearch i.compiled.now i.mode c.forget.new.state i.learner i.checker (used_in i.compiled.now i.mode i.known.items i.seen) i.blocking.items i.bound x) (sym none)
          (search_reduced i.compiled.now i.mode i.state c.forget.new.state i.learner i.checker (used_in i.compiled.now i.mode i.known.items i.seen) i.blocking.items i.bound i.last es
          (ap (λ (x : SearchView). x.program) same ∙ ap (λ (x : SearchView). x.program) undo) (ap (λ (x : SearchView). x.bound) same ∙ ap (λ (x : SearchView). x.bound) undo) reduced
          c.self.invariant.0),
      c.self.invariant.1,
    )
