use Rattle.std.proofs.Common.{ap}
use Rattle.asp_state.specs.SearchStates.{SearchView}
use Rattle.asp_search.specs.Invariants.{used_in}
use Rattle.asp_search.proofs.SearchLaws.{search_stays}
use Rattle.asp_search.proofs.search.Search.seek.Goals as goal

pub invariant_of-self : goal.invariant_of-self
invariant_of-self g c =
    let i = c.self.inside in
    let e = c.raise_in_turn.ensures in (
      search_stays i.compiled.now i.mode i.state c.raise_in_turn.new.state i.learner i.checker (used_in i.compiled.now i.mode i.known.items i.seen)
          i.blocking.items i.bound i.last (ap (λ (x : SearchView). x.program) e)
          (ap (λ (x : SearchView). x.bound) e) (ap (λ (x : SearchView). x.slots) e) c.self.invariant.0,
      c.self.invariant.1,
    )
