-- Values of all variables.
use Rattle.std.specs.Prelude.{◌≡◌, ℕ, Bool, false, List, Option, Some, None, ℤ, slice_index_or}
use Rattle.std.proofs.Common.{sym, ◌∙◌}
use Rattle.asp_model.specs.declared.program.Program.{Program}
use Rattle.asp_model.specs.Costs.{cost}
use Rattle.asp_vars.specs.Literals.{value_of}
use Rattle.asp_vars.specs.Numbering.{var_count}
use Rattle.asp_trail.specs.Trails.{IsVar}
use Rattle.asp_found.specs.Valuations.{IsValuation, KeepsWeights, true_atoms}
use Rattle.asp_propagate.specs.Useful.{IsSmaller}

-- Each variable has the value that v gives it.
pub record IsWhole (p : Program) (a : List (Option Bool)) (v : List Bool) : Type 0 where
  pub valuation : IsValuation p v
  pub values : (x : ℕ) → IsVar (var_count p) x → value_of a x ≡ Some (slice_index_or v x false)

-- The variable of each weight body says whether the body holds, and the true atoms cost less than the bound, if one stands.
pub record KeepsAll (p : Program) (bound : Option (List ℤ)) (v : List Bool) : Type 0 where
  pub weights : KeepsWeights p v
  pub cheaper : IsSmaller (cost p (true_atoms p v)) bound

-- A variable without a value keeps them from being whole.
pub not_whole : (p : Program) (a : List (Option Bool)) (v : List Bool) → IsWhole p a v → (x : ℕ) → IsVar (var_count p) x → value_of a x ≡ None → ⊥
not_whole p a v w x var none = no (slice_index_or v x false) (sym none ∙ w.values x var)
  where
    no : (b : Bool) → None ≡ Some b → ⊥
    no b q = cc
