use Rattle.std.proofs.Common.{List, Option, sym, ap, ◌∙◌, subst}
use Rattle.std.specs.Prelude.{is_some, option_map}
use Rattle.asp_model.specs.declared.program.Program.{Program}
use Rattle.asp_vars.specs.Literals.{Literal}
use Rattle.asp_trail.specs.declared.trail.Entry.{Entry}
use Rattle.asp_trail.specs.Entries.{level}
use Rattle.asp_propagate.specs.Propagating.{Implies}
use Rattle.asp_state.specs.SearchStates.{SearchView, IsSearchState, KeepsCompletion}
use Rattle.asp_state.proofs.SlotLaws.{completed_stays}
use Rattle.asp_state.proofs.StateLaws.{implied_form, track_implied}
use Rattle.asp_state.proofs.state.SearchState.propagate.Goals as goal

pub invariant_of-self : goal.invariant_of-self
invariant_of-self g c =
    let i = c.self.inside in
    let e = c.propagate.ensures in
    let u = c.requires.1 in
    let cube : Option (List Literal) = option_map (λ q. q.items) i.cube in
    let kept : KeepsCompletion i.engine.program c.propagate.new.self.slots =
    completed_stays i.engine.program i.engine.slots c.propagate.new.self.slots e.adds.stay c.self.invariant.0.completed in (
      subst (λ (p : Program). IsSearchState p cube (is_some i.clash) i.decisions.items c.propagate.new.self.entries c.propagate.new.self.slots i.order) (sym e.program)
          (subst (λ (es : List Entry). IsSearchState i.engine.program cube (is_some i.clash) i.decisions.items es c.propagate.new.self.slots i.order) (sym e.implies.1)
          (track_implied i.engine.program cube (is_some i.clash) c.requires.0 i.decisions.items i.engine.entries e.implies.0 i.engine.slots c.propagate.new.self.slots i.order
          (ap (λ (t : SearchView). t.cube) c.self.view_is ∙ u.cube_is) (ap (λ (t : SearchView). t.clashing) c.self.view_is ∙ u.fixpoint)
          (implied_form (level i.engine.entries) e.implies.0 e.implies.2) kept c.self.invariant.0)),
      c.self.invariant.1,
    )

pub returns-clause-implies : goal.returns-clause-implies
returns-clause-implies g c = subst (λ (t : SearchView). Implies t.entries c.propagate.new.self.entries) c.self.view_is c.propagate.ensures.implies
