-- Lists of watches, one for each literal, by its code.
use Rattle.std.specs.Prelude.{◌≡◌, ℕ, ◌==◌, not, filter, List, [], Option, length, slice_index_or, slice_get, slice_set}
use Rattle.std.specs.List.{swap_remove}
use Rattle.asp_store.specs.Marks.{Watch}

abbrev pub list_at : List (List Watch) → ℕ → List Watch
list_at lists c = slice_index_or lists c []

abbrev pub size : List (List Watch) → ℕ → ℕ
size lists c = length (list_at lists c)

-- the watch at a place of a list, if there is one
abbrev pub place : List (List Watch) → ℕ → ℕ → Option Watch
place lists c i = slice_get (list_at lists c) i

-- the lists where one has no watch of this number
abbrev pub without : ℕ → ℕ → List (List Watch) → List (List Watch)
without id c lists = slice_set lists c (filter (λ x. not (x.id == id)) (list_at lists c))

-- The i-th watch of a list is gone, and the last one has its place.
abbrev pub Takes : List (List Watch) → List (List Watch) → ℕ → ℕ → Type 0
Takes old new c i = (w : Watch) × (new ≡ slice_set old c (swap_remove (list_at old c) i w))
