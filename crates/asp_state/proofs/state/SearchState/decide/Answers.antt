use Rattle.std.proofs.Common.{◌≡◌, ℕ, ◌+◌, List, [], ◌∷◌, ◌++◌, Option, None, refl, sym, ap, ◌∙◌, subst, arith}
use Rattle.std.specs.Prelude.{is_some, option_map}
use Rattle.asp_vars.specs.Literals.{Literal}
use Rattle.asp_vars.specs.Numbering.{var_count}
use Rattle.asp_vars.specs.Completion.{completion}
use Rattle.asp_trail.specs.declared.trail.Entry.{Entry}
use Rattle.asp_trail.specs.Entries.{assignment, level}
use Rattle.asp_trail.specs.Trails.{IsOrdered}
use Rattle.asp_order.specs.Waiting.{AreWaiting}
use Rattle.asp_propagate.specs.Propagating.{Propagating, AreAtFixpoint, with_entry}
use Rattle.asp_state.specs.SearchStates.{SearchView, values_of}
use Rattle.asp_state.proofs.KeepLaws.{IsSearchView}
use Rattle.asp_state.proofs.SlotLaws.{fixpoint_completion}
use Rattle.asp_state.proofs.StateLaws.{has_vars, track_decided}
use Rattle.asp_state.proofs.state.SearchState.decide.Goals as goal

pub phase-lit-requires : goal.phase-lit-requires
phase-lit-requires g c = omega (arith, c.in-Some.ensures.next.var.1, c.trail-2.ensures.vars, c.self.invariant.0.few)

pub invariant_of-self-in-Some : goal.invariant_of-self-in-Some
invariant_of-self-in-Some g c =
    let i = c.self.inside in
    let p = i.engine.program in
    let es = i.engine.entries in
    let l = c.phase-lit.result in
    let u = c.requires.under.1 in
    let cube : Option (List Literal) = option_map (λ q. q.items) i.cube in
    let e : Entry = record { lit = l; level = level es + 1; reason = None } in
    let ordered : IsOrdered (var_count p) es =
    subst (λ (k : ℕ). IsOrdered k es) c.trail.ensures.vars (subst (λ (xs : List Entry). IsOrdered c.trail.result.now.vars xs) c.trail.ensures.entries c.len-len.ensures.ordered) in
    let fixpoint =
    fixpoint_completion (assignment (var_count p) es) i.engine.slots (completion p)
    (subst (λ (t : SearchView). AreAtFixpoint t.slots (values_of t)) (sym c.self.view_is) c.requires.fixpoint) c.self.invariant.0.completed in
    let waits : AreWaiting (var_count p) (es ++ e ∷ []) c.next.new.self =
    subst (λ (k : ℕ). AreWaiting k (es ++ e ∷ []) c.next.new.self) c.trail-2.ensures.vars
    (subst (λ (xs : List Entry). AreWaiting c.trail-2.result.now.vars (xs ++ e ∷ []) c.next.new.self) c.trail-2.ensures.entries
    (c.in-Some.ensures.waiting e c.phase-lit.ensures)) in
    let items : c.push_reserved.new.self.items ≡ i.decisions.items ++ l ∷ [] = c.push_reserved.ensures.items ∙ ap (λ (xs : List Literal). xs ++ l ∷ []) c.reserve.ensures.items in (
      subst (λ (f : Propagating). IsSearchView f cube (is_some i.clash) c.push_reserved.new.self.items c.next.new.self) (sym c.decide.ensures)
          (subst (λ (ds : List Literal). IsSearchView (with_entry i.engine l (level es + 1) None) cube (is_some i.clash) ds c.next.new.self) (sym items)
          (track_decided p cube (is_some i.clash) c.requires.under.0 i.decisions.items es i.engine.slots i.order c.next.new.self l e
          (ap (λ (t : SearchView). t.cube) c.self.view_is ∙ u.cube_is) (ap (λ (t : SearchView). t.clashing) c.self.view_is ∙ u.fixpoint) refl refl refl ordered fixpoint
          (has_vars (var_count p) i.order c.next.new.self c.next.ensures.same c.self.invariant.0.ranked) waits c.self.invariant.0)),
      c.self.invariant.1,
    )
