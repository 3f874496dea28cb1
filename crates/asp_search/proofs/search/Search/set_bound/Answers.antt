use Rattle.asp_search.specs.Invariants.{used_in}
use Rattle.std.proofs.Common.{List, Some, sym, ap, ◌∙◌, subst}
use Rattle.std.specs.Prelude.{ℤ}
use Rattle.asp_propagate.specs.Useful.{IsSmaller}
use Rattle.asp_search_laws.specs.Searching.{Searching}
use Rattle.asp_state.specs.SearchStates.{SearchView}
use Rattle.asp_search.proofs.SearchLaws.{search_lower}
use Rattle.asp_search.proofs.search.Search.set_bound.Goals as goal

pub invariant_of-self : goal.invariant_of-self
invariant_of-self g c =
    let i = c.self.inside in
    let e = c.set_bound.ensures in (
      search_lower i.compiled.now i.mode i.state c.set_bound.new.self i.learner i.checker (used_in i.compiled.now i.mode i.known.items i.seen) i.blocking.items i.bound c.args.cost i.last
          (ap (λ (x : SearchView). x.program) e) (ap (λ (x : SearchView). x.bound) e ∙ ap (λ (x : List ℤ). Some x) c.in-Ok.ensures) (ap (λ (x : SearchView). x.slots) e)
          (subst (λ (s : Searching). IsSmaller c.args.cost s.bound) (sym c.self.view_is) c.requires) c.self.invariant.0,
      c.self.invariant.1,
    )
