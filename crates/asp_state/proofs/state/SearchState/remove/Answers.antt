use Rattle.std.proofs.Common.{sym, ap, ◌∙◌, subst}
use Rattle.std.specs.Prelude.{is_some, option_map}
use Rattle.asp_store.specs.Keeping.{kept_at}
use Rattle.asp_propagate.specs.Propagating.{Propagating}
use Rattle.asp_state.specs.SearchStates.{SearchView}
use Rattle.asp_state.proofs.KeepLaws.{IsSearchView, removed_one}
use Rattle.asp_state.proofs.state.SearchState.remove.Goals as goal

pub invariant_of-self : goal.invariant_of-self
invariant_of-self g c =
    let i = c.self.inside in
    let l = c.requires.local in
    let cube = option_map (λ q. q.items) i.cube in (
      subst (λ (f : Propagating). IsSearchView f cube (is_some i.clash) i.decisions.items i.order) (sym c.remove.ensures)
          (removed_one i.engine c.args.id l.0 cube (is_some i.clash) i.decisions.items i.order (ap (λ (t : SearchView). kept_at t.slots c.args.id) c.self.view_is ∙ l.1) l.2 c.self.invariant.0),
      c.self.invariant.1,
    )
