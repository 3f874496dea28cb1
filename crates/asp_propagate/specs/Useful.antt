-- When a nogood counts for a search that knows some answers and has a bound.
use Rattle.std.specs.Prelude.{◌≡◌, true, List, Option, Some, None, ℤ, IsTrue}
use Rattle.asp_model.specs.declared.program.Program.{Program}
use Rattle.asp_model.specs.Sets.{Atoms}
use Rattle.asp_model.specs.Costs.{betters}
use Rattle.asp_vars.specs.Entailment.{IsGood}
use Rattle.asp_vars.specs.Resolution.{is_bound_within}
use Rattle.asp_vars.specs.declared.nogood.Base.{Base}
use Rattle.asp_vars.specs.declared.nogood.Base.TheVariants as base
use Rattle.asp_vars.specs.declared.nogood.Nogood.{Nogood}

-- The bound has reached the cost below which the nogood excludes.
abbrev pub Counts : Option (List ℤ) → Base → Type 0
Counts bound base.Pure = Unit {0}
Counts bound (base.Below c) = IsTrue (is_bound_within bound c)
Counts bound base.Local = Unit {0}

-- Pure and entailed; or below a cost that the bound has reached; or local and settled by the answers known and the bound.
pub record IsUseful (p : Program) (known : List Atoms) (bound : Option (List ℤ)) (n : Nogood) : Type 0 where
  pub good : IsGood p known bound n
  pub counts : Counts bound n.base

-- The cost is smaller than the bound, if one stands.
abbrev pub IsSmaller : List ℤ → Option (List ℤ) → Type 0
IsSmaller c None = Unit {0}
IsSmaller c (Some d) = betters c d ≡ true
