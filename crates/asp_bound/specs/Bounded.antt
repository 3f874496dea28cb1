-- What the propagator of the cost bound was told, and what it gives.
use Rattle.std.specs.Prelude.{◌≡◌, true, false, List, Option, Some, None, ℤ}
use Rattle.std.specs.List.{All}
use Rattle.asp_vars.specs.declared.nogood.Base.TheVariants as base
use Rattle.asp_vars.specs.declared.nogood.Nogood.{Nogood}
use Rattle.asp_vars.specs.Entailment.{Below}
use Rattle.asp_vars.specs.Numbering.{var_count}
use Rattle.asp_model.specs.Costs.{betters}
use Rattle.asp_trail.specs.Trails.{IsVar}
use Rattle.asp_trail.specs.Told.{Told}
use Rattle.asp_trail.specs.Fixpoint.{is_at_fixpoint}
use Rattle.asp_bound.specs.Definition.{ExcludesBelow}

-- the values told, and the bound that stands
pub record Bounded : Type 0 where
  pub told : Told
  pub bound : Option (List ℤ)

-- The cost is smaller than the bound, if one stands.
abbrev pub IsSmaller : List ℤ → Option (List ℤ) → Type 0
IsSmaller c None = Unit {0}
IsSmaller c (Some d) = betters c d ≡ true

-- A nogood that follows by the bound c, and isn't at fixpoint.
pub record IsGivenBy (t : Told) (c : List ℤ) (n : Nogood) : Type 0 where
  pub base : n.base ≡ base.Below c
  pub excluded : ExcludesBelow t.program c n.lits
  pub below : Below t.program c n.lits
  pub within : All (λ l. IsVar (var_count t.program) l.var) n.lits
  pub wanted : is_at_fixpoint t.values n.lits ≡ false

abbrev pub IsGiven : Bounded → Nogood → Type 0
IsGiven s n = (c : List ℤ) × (s.bound ≡ Some c) × IsGivenBy s.told c n
