use Rattle.std.proofs.Common.{ap, subst}
use Rattle.asp_model.specs.Sound.{IsSound}
use Rattle.asp_state.specs.SearchStates.{SearchView}
use Rattle.asp_search.specs.Invariants.{used_in}
use Rattle.asp_search.proofs.SearchLaws.{search_adds}
use Rattle.asp_search.proofs.search.Search.imply_all.Goals as goal

pub invariant_of-self : goal.invariant_of-self
invariant_of-self g c =
    let i = c.self.inside in
    let t = i.state in
    let sound : IsSound t.program = subst IsSound c.self.invariant.0.program c.program-program.ensures.sound in (
      search_adds i.compiled.now i.mode t c.propagate.new.self i.learner i.checker (used_in i.compiled.now i.mode i.known.items i.seen)
          i.blocking.items i.bound i.last (g.P.Propagator.gives t.program t.bound)
          (ap (λ (x : SearchView). x.program) c.propagate.ensures.same) (ap (λ (x : SearchView). x.bound) c.propagate.ensures.same)
          (λ n h. g.met.P.Propagator.sound t.program t.bound n (used_in i.compiled.now i.mode i.known.items i.seen) sound h) c.propagate.ensures.adds c.self.invariant.0,
      c.self.invariant.1,
    )

pub invariant_of-self-2 : goal.invariant_of-self-2
invariant_of-self-2 g c =
    let i = c.self.inside in
    let t = i.state in
    let sound : IsSound t.program = subst IsSound c.self.invariant.0.program c.program-program.ensures.sound in (
      search_adds i.compiled.now i.mode t c.propagate.new.self i.learner i.checker (used_in i.compiled.now i.mode i.known.items i.seen)
          i.blocking.items i.bound i.last (g.P.Propagator.gives t.program t.bound)
          (ap (λ (x : SearchView). x.program) c.propagate.ensures.same) (ap (λ (x : SearchView). x.bound) c.propagate.ensures.same)
          (λ n h. g.met.P.Propagator.sound t.program t.bound n (used_in i.compiled.now i.mode i.known.items i.seen) sound h) c.propagate.ensures.adds c.self.invariant.0,
      c.self.invariant.1,
    )
