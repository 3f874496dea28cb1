use Rattle.std.proofs.Common.{◌≡◌, ℕ, Option, None, sym, ap, ◌∙◌, subst}
use Rattle.asp_search_laws.specs.Searching.{Searching}
use Rattle.asp_state.specs.SearchStates.{SearchView}
use Rattle.asp_search.specs.Invariants.{IsSearch, used_in}
use Rattle.asp_search.proofs.SearchLaws.{search_reduced}
use Rattle.asp_search.proofs.search.Search.make_room.Goals as goal

pub invariant_of-self : goal.invariant_of-self
invariant_of-self g c =
    let i = c.self.inside in
    let same = c.thin.ensures.same in
    let none : i.last ≡ None = ap (λ (s : Searching). s.last) c.self.view_is ∙ c.requires.last in (
      subst (λ (x : Option ℕ). IsSearch i.compiled.now i.mode c.thin.new.state i.learner i.checker (used_in i.compiled.now i.mode i.known.items i.seen) i.blocking.items i.bound x) (sym none)
          (search_reduced i.compiled.now i.mode i.state c.thin.new.state i.learner i.checker (used_in i.compiled.now i.mode i.known.items i.seen) i.blocking.items i.bound i.last i.state.entries
          (ap (λ (x : SearchView). x.program) same) (ap (λ (x : SearchView). x.bound) same) c.thin.ensures.reduced c.self.invariant.0),
      c.self.invariant.1,
    )
