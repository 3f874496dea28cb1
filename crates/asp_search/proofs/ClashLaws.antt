-- The conflict of copied lists.
use Rattle.std.proofs.Common.{◌≡◌, ℕ, List, length, take, Option, Some, sym, ap, ◌∙◌, subst}
use Rattle.std.specs.Prelude.{ℤ, IfSome}
use Rattle.asp_model.specs.declared.program.Program.{Program}
use Rattle.asp_model.specs.declared.results.Reasoning.{Reasoning}
use Rattle.asp_model.specs.Consequences.{used_up}
use Rattle.asp_model.specs.Sets.{Atoms}
use Rattle.asp_vars.specs.Literals.{Literal}
use Rattle.asp_vars.specs.Conflicts.{IsConflict}
use Rattle.asp_vars.specs.Paid.{Clash}
use Rattle.asp_vars.specs.declared.nogood.Nogood.{Nogood}
use Rattle.asp_trail.specs.Entries.{level_in}
use Rattle.asp_store.specs.Keeping.{nogood_at}
use Rattle.asp_state.specs.SearchStates.{SearchView}
use Rattle.asp_search.specs.Meeting.{ShowsConflict, IsClashOf}

module _ (t : SearchView) (id : ℕ) (lit : Literal) (top : ℕ) (cube decisions nogood : List Literal) (at : top ≡ level_in t.entries lit.var) (is_cube : (q : List Literal) → t.cube ≡ Some q → cube ≡ q)
    (are_decided : decisions ≡ take top t.decisions) (is_kept : IfSome (nogood_at t.slots id) (λ n. nogood ≡ n.lits)) where
  decided : decisions ≡ take (level_in t.entries lit.var) t.decisions
  decided = are_decided ∙ ap (λ (k : ℕ). take k t.decisions) at

  from_is : (p : Program) (known : List Atoms) (b : Option (List ℤ)) → (m : ShowsConflict p known b t id lit) → nogood ≡ m.from.lits
  from_is p known b m = subst (λ (o : Option Nogood). IfSome o (λ n. nogood ≡ n.lits)) m.stands is_kept

  pub lists_conflict : (p : Program) (known : List Atoms) (b bound : Option (List ℤ)) → bound ≡ b → ShowsConflict p known b t id lit → IsConflict p known bound cube decisions nogood
  lists_conflict p known b bound same m =
      subst (λ (x : Option (List ℤ)). IsConflict p known x cube decisions nogood) (sym same)
      (subst (λ (x : List Literal). IsConflict p known b x decisions nogood) (sym (is_cube m.cube m.entered))
      (subst (λ (x : List Literal). IsConflict p known b m.cube x nogood) (sym decided)
      (subst (λ (x : List Literal). IsConflict p known b m.cube (take (level_in t.entries lit.var) t.decisions) x) (sym (from_is p known b m))
      m.conflict)))

  pub clash_is : (p : Program) (k sought : Option Reasoning) (answers : List Atoms) (size : ℕ) (b bound : Option (List ℤ)) (x : Clash) → sought ≡ k → size ≡ length answers → bound ≡ b →
      x ≡ record { program = p; cube = cube; decisions = decisions; nogood = nogood; reasoning = sought; known = size; bound = bound } → IsClashOf p k answers b t id lit x
  clash_is p k sought answers size b bound x same count equal is m =
      let e : cube ≡ m.cube = is_cube m.cube m.entered in
      let d : decisions ≡ take (level_in t.entries lit.var) t.decisions = decided in
      let n : nogood ≡ m.from.lits = from_is p (used_up k p answers) b m in
      cc
