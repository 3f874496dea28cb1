-- Which variables reach the bound by a value.
use Rattle.std.specs.Prelude.{◌≡◌, ℕ, ◌<◌, Bool, true, false, List, Option, Some, None, ℤ, pos, ◌+ℤ◌, ◌≤ℤ◌, ◌⊎◌, IsSome}
use Rattle.asp_vars.specs.Literals.{value_of}
use Rattle.asp_bound.specs.declared.place.Place.{Place}
use Rattle.asp_bound.specs.declared.find.Implied.{Implied}
use Rattle.asp_bound.specs.Rises.{raised, row_at}
use Rattle.asp_bound.specs.Reach.{reach, lifted}

-- where the sums, raised by a value, reach the bound
abbrev pub reach_at : List (List Place) → List ℤ → List ℤ → ℕ → Bool → Option ℕ
reach_at rows sums bound v b = reach (lifted (λ j. raised (row_at rows v) j b) sums) bound

-- So much at a priority may raise the sum to the limit.
abbrev pub IsNear : ℤ → ℤ → ℕ → Type 0
IsNear sum limit most = (0 < most) × (limit ≤ℤ (sum +ℤ pos most))

-- The variable has a value, or reaches the bound by none.
abbrev pub Passes : List (Option Bool) → List (List Place) → List ℤ → List ℤ → ℕ → Type 0
Passes a rows sums bound v = IsSome (value_of a v) ⊎ ((reach_at rows sums bound v true ≡ None) × (reach_at rows sums bound v false ≡ None))

-- The variable has no value, and the complement's one reaches the bound.
pub record Reaches (a : List (Option Bool)) (rows : List (List Place)) (sums bound : List ℤ) (i : Implied) : Type 0 where
  pub no_value : value_of a i.lit.var ≡ None
  pub reached : reach_at rows sums bound i.lit.var i.lit.truth ≡ Some i.depth
