-- What the propagator keeps.
use Rattle.std.specs.Prelude.{◌≡◌, ◌≢◌, ℕ, ◌+◌, ◌<◌, ◌≤◌, ◌==◌, ◌^◌, true, Bool, List, [], Option, length, ℤ}
use Rattle.std.specs.List.{All, list_any, count_by}
use Rattle.asp_model.specs.declared.program.Program.{Program}
use Rattle.asp_model.specs.Sound.{IsSound}
use Rattle.asp_vars.specs.Numbering.{var_count}
use Rattle.asp_bound.specs.declared.place.Place.{Place}
use Rattle.asp_bound.specs.declared.place.Item.{Item}
use Rattle.asp_bound.specs.Optimism.{items_at, optimistic}
use Rattle.asp_bound.specs.Weights.{size_of}
use Rattle.asp_model.specs.Costs.{priorities}
use Rattle.asp_bound.specs.Starts.{AreLinked}
use Rattle.asp_bound.specs.Rises.{nth_priority, AreRows, AreColumns, row_at}

abbrev pub AreSmall : Program → Type 0
AreSmall p = (j : ℕ) → j < length (priorities p.minimize) → size_of (items_at p.minimize (nth_priority p j)) ≤ 2 ^ 55

-- No variable stands twice.
abbrev pub IsOnce : List ℕ → Type 0
IsOnce vars = (v : ℕ) → count_by (λ x. x == v) vars ≤ 1

-- The variables are those that have places, and maybe others, each once.
pub record AreVars (p : Program) (rows : List (List Place)) (vars : List ℕ) : Type 0 where
  pub within : All (λ v. (0 < v) × (v ≤ var_count p)) vars
  pub whole : (v : ℕ) → 0 < v → v ≤ var_count p → row_at rows v ≢ [] → list_any (λ x. x == v) vars ≡ true
  pub once : IsOnce vars

pub record IsKept (p : Program) (a : List (Option Bool)) (rows : List (List Place)) (columns : List (List Item)) (vars : List ℕ) (sums : List ℤ) : Type 0 where
  pub sound : IsSound p
  pub few : var_count p < 2 ^ 31
  pub small : AreSmall p
  pub sized : length a ≡ var_count p + 1
  pub rowed : AreRows p rows
  pub columned : AreColumns p columns
  pub listed : AreVars p rows vars
  pub linked : AreLinked rows columns
  pub summed : sums ≡ optimistic p a
