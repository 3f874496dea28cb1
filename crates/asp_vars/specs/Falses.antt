-- How values are stored: for each literal, by its code, whether it is false.
use Rattle.std.specs.Prelude.{◌≡◌, ℕ, ◌+◌, ◌*◌, ◌/◌, Bool, true, false, List, Option, Some, None, length, map, slice_index_or}
use Rattle.std.specs.List.{range_with_len}

-- the value of a variable, by whether "true" and "false" are ruled out
abbrev pub value_by : Bool → Bool → Option Bool
value_by true b = Some false
value_by false true = Some true
value_by false false = None

-- the literals of a variable stand at twice its number and at the next place
unfoldable pub value_at : List Bool → ℕ → Option Bool
value_at falses v = value_by (slice_index_or falses (2 * v) false) (slice_index_or falses (2 * v + 1) false)

abbrev pub values_of : List Bool → List (Option Bool)
values_of falses = map (value_at falses) (range_with_len 0 (length falses / 2))

-- Each variable has two places, and not both of its literals are false.
pub record AreFalses (falses : List Bool) : Type 0 where
  pub even : 2 * (length falses / 2) ≡ length falses
  pub apart : (v : ℕ) → slice_index_or falses (2 * v) false ≡ true → slice_index_or falses (2 * v + 1) false ≡ false
