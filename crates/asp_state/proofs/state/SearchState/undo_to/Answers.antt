use Rattle.std.proofs.Common.{ℕ, List, Option, sym, subst}
use Rattle.std.specs.Prelude.{is_some, option_map}
use Rattle.asp_vars.specs.Literals.{Literal}
use Rattle.asp_vars.specs.Numbering.{var_count}
use Rattle.asp_trail.specs.declared.trail.Entry.{Entry}
use Rattle.asp_trail.specs.Entries.{cut}
use Rattle.asp_trail.specs.Trails.{IsOrdered}
use Rattle.asp_order.specs.Waiting.{AreWaiting}
use Rattle.asp_propagate.specs.Propagating.{Propagating}
use Rattle.asp_state.proofs.KeepLaws.{IsSearchView}
use Rattle.asp_state.proofs.StateLaws.{track_cut}
use Rattle.asp_state.proofs.state.SearchState.undo_to.Goals as goal

pub invariant_of-self : goal.invariant_of-self
invariant_of-self g c =
    let i = c.self.inside in
    let p = i.engine.program in
    let es = i.engine.entries in
    let k = c.args.level in
    let cube : Option (List Literal) = option_map (λ q. q.items) i.cube in
    let new = c.restore_above.new.self in
    let ordered : IsOrdered (var_count p) es =
    subst (λ (n : ℕ). IsOrdered n es) c.trail.ensures.vars (subst (λ (xs : List Entry). IsOrdered c.trail.result.now.vars xs) c.trail.ensures.entries c.len-len.ensures.ordered) in
    let before : AreWaiting c.trail-2.result.now.vars c.trail-2.result.now.entries i.order =
    subst (λ (n : ℕ). AreWaiting n c.trail-2.result.now.entries i.order) (sym c.trail-2.ensures.vars)
    (subst (λ (xs : List Entry). AreWaiting (var_count p) xs i.order) (sym c.trail-2.ensures.entries) c.self.invariant.0.waiting) in
    let waits : AreWaiting (var_count p) (cut k es) new =
    subst (λ (n : ℕ). AreWaiting n (cut k es) new) c.trail-2.ensures.vars
    (subst (λ (xs : List Entry). AreWaiting c.trail-2.result.now.vars (cut k xs) new) c.trail-2.ensures.entries (c.restore_above.ensures.waiting before)) in (
      subst (λ (f : Propagating). IsSearchView f cube (is_some i.clash) c.truncate.new.self.items new) (sym c.undo_to.ensures)
          (subst (λ (ds : List Literal). IsSearchView (record i.engine { entries = cut k es }) cube (is_some i.clash) ds new) (sym c.truncate.ensures.items)
          (track_cut p cube (is_some i.clash) i.decisions.items es i.engine.slots i.order new k ordered c.restore_above.ensures.fuller waits c.self.invariant.0)),
      c.self.invariant.1,
    )
