-- The variables whose values raise the optimistic cost.
use Rattle.std.specs.Prelude.{◌≡◌, ℕ, ◌<◌, ◌==◌, nat_lt, Bool, true, false, not, if◌then◌else◌, List, [], ◌∷◌, ◌++◌, filter, length, Option, Some, None}
use Rattle.std.specs.List.{All, list_any}
use Rattle.asp_vars.specs.Literals.{Literal, value_of}
use Rattle.asp_bound.specs.declared.place.Place.{Place}
use Rattle.asp_bound.specs.Rises.{rise_by, row_at}
use Rattle.asp_bound.specs.Kept.{IsOnce}

-- variables in the order in which they came, and how many have room
pub record Line : Type 0 where
  pub vars : List ℕ
  pub room : ℕ

-- whether a place in the row adds something by the value
abbrev pub is_raising : List Place → Bool → Bool
is_raising row b = list_any (λ o. nat_lt 0 (rise_by b o)) row

abbrev pub is_raising_by : List Place → Option Bool → Bool
is_raising_by row None = false
is_raising_by row (Some b) = is_raising row b

-- whether the variable has a value by which it adds something
abbrev pub is_raiser : List (Option Bool) → List (List Place) → ℕ → Bool
is_raiser a rows v = is_raising_by (row_at rows v) (value_of a v)

abbrev pub without : ℕ → List ℕ → List ℕ
without v vars = filter (λ x. not (x == v)) vars

-- the variables with one that gets a value
abbrev pub joined : List Place → Literal → List ℕ → List ℕ
joined row l vars = if is_raising row l.truth then vars ++ l.var ∷ [] else vars

-- the variables without one that loses its value
abbrev pub left : List Place → Literal → List ℕ → List ℕ
left row l vars = if is_raising row l.truth then without l.var vars else vars

-- Each variable that adds something by its value stands there once, and no other does.
pub record AreRaisers (a : List (Option Bool)) (rows : List (List Place)) (vars : List ℕ) : Type 0 where
  pub within : All (λ v. (0 < v) × (v < length a)) vars
  pub raising : All (λ v. is_raiser a rows v ≡ true) vars
  pub once : IsOnce vars
  pub whole : (v : ℕ) → is_raiser a rows v ≡ true → list_any (λ x. x == v) vars ≡ true
