-- The values that only some variables have.
use Rattle.std.specs.Prelude.{◌≡◌, ℕ, ◌+◌, ◌<◌, ◌≤◌, ◌==◌, Bool, true, List, length, fold, replicate, slice_set, Option, Some, None}
use Rattle.std.specs.List.{All, list_any}
use Rattle.asp_vars.specs.Literals.{value_of}
use Rattle.asp_bound.specs.declared.place.Place.{Place}
use Rattle.asp_bound.specs.Kept.{IsOnce}
use Rattle.asp_trail.specs.Trails.{Trailed}
use Rattle.asp_bound.specs.Explained.{AreTold}
use Rattle.asp_bound.specs.Raisers.{is_raiser, AreRaisers}

abbrev pub with_value : List (Option Bool) → ℕ → Option Bool → List (Option Bool)
with_value x v None = x
with_value x v (Some b) = slice_set x v (Some b)

-- the values of these variables, and of no others
abbrev pub only : List (Option Bool) → List ℕ → List (Option Bool)
only a vars = fold (λ x v. with_value x v (value_of a v)) (replicate (length a) None) vars

-- They are of the variables up to this one, each once.
pub record AreOnce (most : ℕ) (vars : List ℕ) : Type 0 where
  pub within : All (λ v. (0 < v) × (v ≤ most)) vars
  pub once : IsOnce vars

-- Each variable that adds something by its value stands there, and each once.
pub record HaveRaisers (a : List (Option Bool)) (rows : List (List Place)) (vars : List ℕ) : Type 0 where
  pub within : All (λ v. (0 < v) × (v < length a)) vars
  pub once : IsOnce vars
  pub whole : (v : ℕ) → is_raiser a rows v ≡ true → list_any (λ x. x == v) vars ≡ true

-- They are the raisers of values that were told, those before the place among them.
abbrev pub HaveTold : Trailed → ℕ → List (List Place) → List ℕ → Type 0
HaveTold t place rows vars = (a : List (Option Bool)) × AreRaisers a rows vars × (length a ≡ t.vars + 1) × AreTold a place t.entries
