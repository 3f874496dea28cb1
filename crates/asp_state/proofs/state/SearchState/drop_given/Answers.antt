use Rattle.std.proofs.Common.{◌≡◌, ℕ, cond, sym, subst}
use Rattle.std.specs.Prelude.{is_some, option_map}
use Rattle.asp_store.specs.Keeping.{kept_at, unless_given}
use Rattle.asp_propagate.specs.Propagating.{Propagating, is_named}
use Rattle.asp_state.specs.SearchStates.{SearchView}
use Rattle.asp_state.proofs.KeepLaws.{IsSearchView, reduced_all}
use Rattle.asp_state.proofs.state.SearchState.drop_given.Goals as goal

pub invariant_of-self : goal.invariant_of-self
invariant_of-self g c =
    let i = c.self.inside in
    let cube = option_map (λ q. q.items) i.cube in (
      subst (λ (f : Propagating). IsSearchView f cube (is_some i.clash) i.decisions.items i.order) (sym c.drop_given.ensures.same)
          (reduced_all i.engine c.drop_given.new.self.slots cube (is_some i.clash) i.decisions.items i.order c.drop_given.ensures.kept c.self.invariant.0),
      c.self.invariant.1,
    )

pub returns-clause-each : goal.returns-clause-each
returns-clause-each g c =
    let slots = c.drop_given.new.self.slots in
    subst (λ (x : SearchView). (id : ℕ) → kept_at slots id ≡ cond (is_named x.entries id) (kept_at x.slots id) (unless_given (kept_at x.slots id))) c.self.view_is
    c.drop_given.ensures.each
