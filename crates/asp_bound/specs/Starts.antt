-- From where the items of each priority are looked at.
use Rattle.std.specs.Prelude.{◌≡◌, ℕ, ◌<◌, Bool, List, [], Option, length, slice_index_or, IsSome}
use Rattle.std.specs.List.{Contains}
use Rattle.asp_vars.specs.Literals.{value_of}
use Rattle.asp_bound.specs.declared.place.Place.{Place}
use Rattle.asp_bound.specs.declared.place.Item.{Item}
use Rattle.asp_bound.specs.Rises.{row_at}

-- Each item before the start has a value.
abbrev pub ArePassed : List (Option Bool) → List Item → ℕ → Type 0
ArePassed a column start = (i : ℕ) (d : Item) → i < start → i < length column → IsSome (value_of a (slice_index_or column i d).var)

-- Each priority has a start, and its items before that have values.
pub record AreStarts (a : List (Option Bool)) (columns : List (List Item)) (starts : List ℕ) : Type 0 where
  pub count : length starts ≡ length columns
  pub passed : (j : ℕ) → j < length columns → ArePassed a (slice_index_or columns j []) (slice_index_or starts j 0)

-- Each item of the j-th priority has its place in its variable's row.
abbrev pub IsLinked : List (List Place) → ℕ → List Item → Type 0
IsLinked rows j column = (i : ℕ) (d : Item) → i < length column → (o : Place) × Contains (row_at rows (slice_index_or column i d).var) o × (o.level ≡ j) × (o.index ≡ i)

pub record AreLinked (rows : List (List Place)) (columns : List (List Item)) : Type 0 where
  pub each : (j : ℕ) → j < length columns → IsLinked rows j (slice_index_or columns j [])
