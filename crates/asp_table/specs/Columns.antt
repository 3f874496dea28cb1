-- Rows read by their items.
use Rattle.std.specs.Prelude.{◌≡◌, ℕ, suc, ◌<◌, ◌==◌, Bool, false, List, [], ◌∷◌, ◌++◌, length, if◌then◌else◌, slice_index_or}
use Rattle.std.specs.List.{list_any}
use Rattle.asp_table.specs.declared.columns.Occurrence.{Occurrence}

-- the first place at which the test passes
abbrev pub place_of : {X : Type 0} → (X → Bool) → List X → ℕ
place_of p [] = 0
place_of p (x ∷ xs) = if p x then 0 else suc (place_of p xs)

-- whether the key is in the row
abbrev pub has_key : List ℕ → ℕ → Bool
has_key row k = list_any (λ x. x == k) row

-- where the key stands in the row, if it does
abbrev pub cell_of : ℕ → ℕ → List ℕ → List Occurrence
cell_of body k row = if has_key row k then record { body = body; place = place_of (λ x. x == k) row } ∷ [] else []

-- where the key stands in rows that begin with the row of this number
abbrev pub column : ℕ → ℕ → List (List ℕ) → List Occurrence
column body k [] = []
column body k (row ∷ rows) = cell_of body k row ++ column (suc body) k rows

-- For each key below the count its column.
pub record IsRead (columns : List (List Occurrence)) (count : ℕ) (rows : List (List ℕ)) : Type 0 where
  pub whole : length columns ≡ count
  pub cells : (k : ℕ) → k < count → slice_index_or columns k [] ≡ column 0 k rows

-- ---- steps
-- whether the last of the cells is in the body
abbrev pub ends_in : List Occurrence → ℕ → Bool
ends_in [] body = false
ends_in (x ∷ []) body = x.body == body
ends_in (x ∷ y ∷ cells) body = ends_in (y ∷ cells) body

-- the cells with one more, unless their last is in the same body
abbrev pub with_last : List Occurrence → ℕ → ℕ → List Occurrence
with_last cells body place = if ends_in cells body then cells else cells ++ record { body = body; place = place } ∷ []
