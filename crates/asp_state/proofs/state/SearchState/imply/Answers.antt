use Rattle.std.proofs.Common.{List, [], ◌∷◌, Option, Some, sym, ap, ◌∙◌, subst}
use Rattle.std.specs.Prelude.{is_some, option_map}
use Rattle.asp_vars.specs.Literals.{Literal}
use Rattle.asp_trail.specs.Entries.{level}
use Rattle.asp_propagate.specs.Propagating.{Propagating}
use Rattle.asp_trail_laws.proofs.AssumeLaws.{implied_one}
use Rattle.asp_state.specs.SearchStates.{SearchView, IsSearchState}
use Rattle.asp_state.proofs.StateLaws.{track_implied}
use Rattle.asp_state.proofs.state.SearchState.imply.Goals as goal

pub invariant_of-self : goal.invariant_of-self
invariant_of-self g c =
    let i = c.self.inside in
    let u = c.requires.under.1 in
    let cube : Option (List Literal) = option_map (λ q. q.items) i.cube in (
      subst (λ (x : Propagating). IsSearchState x.program cube (is_some i.clash) i.decisions.items x.entries x.slots i.order) (sym c.imply.ensures)
          (track_implied i.engine.program cube (is_some i.clash) c.requires.under.0 i.decisions.items i.engine.entries
          (record { lit = c.args.lit; level = level i.engine.entries; reason = Some c.args.id } ∷ []) i.engine.slots i.engine.slots i.order
          (ap (λ (t : SearchView). t.cube) c.self.view_is ∙ u.cube_is) (ap (λ (t : SearchView). t.clashing) c.self.view_is ∙ u.fixpoint)
          (implied_one (level i.engine.entries) c.args.lit c.args.id) c.self.invariant.0.completed c.self.invariant.0),
      c.self.invariant.1,
    )
