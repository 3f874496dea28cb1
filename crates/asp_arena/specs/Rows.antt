-- Rows of literals that stand in one list of cells.
use Rattle.std.specs.Prelude.{ℕ, ◌+◌, ◌<◌, ◌≤◌, ◌⊎◌, List, [], length, map, take, drop, slice_index_or}
use Rattle.asp_vars.specs.Literals.{Literal}
use Rattle.asp_arena.specs.declared.span.Span.{Span}

-- the row of a number, which is empty where the number wasn't given out
abbrev pub row_at : List (List Literal) → ℕ → List Literal
row_at rows id = slice_index_or rows id []

-- the literals of a span
abbrev pub cells_of : List Literal → Span → List Literal
cells_of cells s = take s.len (drop s.start cells)

abbrev pub rows_of : List Span → List Literal → List (List Literal)
rows_of spans cells = map (cells_of cells) spans

-- One ends before the other one begins.
abbrev pub AreApart : Span → Span → Type 0
AreApart s t = (s.start + s.len ≤ t.start) ⊎ (t.start + t.len ≤ s.start)

-- All spans are within the cells, and no two of them have a cell together.
pub record AreSpans (spans : List Span) (cells : List Literal) : Type 0 where
  pub within : (k : ℕ) (d : Span) → k < length spans → (slice_index_or spans k d).start + (slice_index_or spans k d).len ≤ length cells
  pub apart : (j k : ℕ) (d : Span) → j < k → k < length spans → AreApart (slice_index_or spans j d) (slice_index_or spans k d)
