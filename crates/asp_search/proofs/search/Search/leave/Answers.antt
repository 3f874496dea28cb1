use Rattle.asp_search.specs.Invariants.{answers_known, used_in}
use Rattle.std.proofs.Common.{None, ap}
use Rattle.asp_state.specs.SearchStates.{SearchView}
use Rattle.asp_search.proofs.SearchLaws.{search_same}
use Rattle.asp_search.proofs.BesideLaws.{left_from}
use Rattle.asp_search.proofs.search.Search.leave.Goals as goal

pub invariant_of-self : goal.invariant_of-self
invariant_of-self g c =
    let i = c.self.inside in
    let u : SearchView = c.leave.new.self in (
      search_same i.compiled.now i.mode i.state u i.learner i.checker (used_in i.compiled.now i.mode i.known.items i.seen) i.blocking.items i.bound
          i.last None (ap (λ (x : SearchView). x.program) c.leave.ensures.same)
          (ap (λ (x : SearchView). x.bound) c.leave.ensures.same) (ap (λ (x : SearchView). x.slots) c.leave.ensures.same) tt c.self.invariant.0,
      c.self.invariant.1,
    )

pub returns : goal.returns
returns g c =
    let i = c.self.inside in
    left_from i.mode i.state c.leave.new.self i.pace (answers_known i.known.items i.seen) i.last c.args.self.now c.self.view_is c.leave.ensures.same
