use Rattle.std.proofs.Common.{None, ap}
use Rattle.asp_state.specs.SearchStates.{SearchView}
use Rattle.asp_search.specs.Invariants.{used_in}
use Rattle.asp_search.proofs.SearchLaws.{search_same}
use Rattle.asp_search.proofs.search.Search.decide_first.Goals as goal

pub invariant_of-self : goal.invariant_of-self
invariant_of-self g c =
    let i = c.self.inside in
    let e = c.undo_to.ensures.same in (
      search_same i.compiled.now i.mode i.state c.undo_to.new.self i.learner i.checker (used_in i.compiled.now i.mode i.known.items i.seen)
          i.blocking.items i.bound i.last None (ap (λ (x : SearchView). x.program) e)
          (ap (λ (x : SearchView). x.bound) e) (ap (λ (x : SearchView). x.slots) e) tt c.self.invariant.0,
      c.self.invariant.1,
    )
