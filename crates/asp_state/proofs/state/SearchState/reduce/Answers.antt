use Rattle.std.proofs.Common.{sym, subst}
use Rattle.std.specs.Prelude.{is_some, option_map}
use Rattle.asp_propagate.specs.Propagating.{Propagating}
use Rattle.asp_state.proofs.KeepLaws.{IsSearchView, reduced_all}
use Rattle.asp_state.proofs.state.SearchState.reduce.Goals as goal

pub invariant_of-self : goal.invariant_of-self
invariant_of-self g c =
    let i = c.self.inside in
    let cube = option_map (λ q. q.items) i.cube in (
      subst (λ (f : Propagating). IsSearchView f cube (is_some i.clash) i.decisions.items i.order) (sym c.reduce.ensures.same)
          (reduced_all i.engine c.reduce.new.self.slots cube (is_some i.clash) i.decisions.items i.order c.reduce.ensures.kept c.self.invariant.0),
      c.self.invariant.1,
    )
