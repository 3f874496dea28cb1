-- The answers that wait, as contracts see them.
use Rattle.std.specs.Prelude.{◌≡◌, Bool, true, false, List, [], ◌∷◌, filter, map, if◌then◌else◌, Option, None, Some}
use Rattle.asp_model.specs.Sets.{Atoms}
use Rattle.asp_rows.specs.declared.row.Row.{Row}
use Rattle.asp_core.specs.Sorting.{with_set}
use Rattle.asp_watermark.specs.Floors.{is_below}

-- the program's atoms, the floor, and those answers that wait
pub record Pending : Type 0 where
  pub atoms : Atoms
  pub floor : Atoms
  pub sets : List Atoms

-- one answer more, unless it is there or comes before the floor
abbrev pub with_waiting : Atoms → Atoms → List Atoms → List Atoms
with_waiting floor S sets = if is_below (Some floor) S then sets else with_set S sets

abbrev pub sets_of : List Row → List Atoms
sets_of rows = map (λ (row : Row). row.set) rows

-- The first row's set comes before x, or none does.
abbrev pub BeginsBelow : Atoms → List Row → Bool → Type 0
BeginsBelow x [] b = b ≡ false
BeginsBelow x (row ∷ rows) true = is_below (Some x) row.set ≡ true
BeginsBelow x (row ∷ rows) false = filter (is_below (Some x)) (sets_of (row ∷ rows)) ≡ []

-- The first row was taken out, whose set comes before x; or no set does.
abbrev pub PopsBelow : Atoms → List Row → List Row → Option Row → Type 0
PopsBelow x old new None = (new ≡ old) × (filter (is_below (Some x)) (sets_of old) ≡ [])
PopsBelow x old new (Some row) = (old ≡ row ∷ new) × (is_below (Some x) row.set ≡ true)
