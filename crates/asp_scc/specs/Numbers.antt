-- Numbers from 0 on for the classes that occur, and the members of each.
use Rattle.std.specs.Prelude.{◌≡◌, ℕ, ◌+◌, ◌-◌, ◌<◌, ◌==◌, nat_lt, length, Bool, not, ◌&&◌, List, [], if◌then◌else◌, map, slice_index, slice_index_or, slice_set}
use Rattle.std.specs.List.{list_any}
use Rattle.asp_scc.specs.Graphs.{Graph, edges, is_in}

-- A class without a number gets the next one, counted from 1.
abbrev pub give_number : List ℕ × ℕ → ℕ → List ℕ × ℕ
give_number s class = if slice_index s.0 class == 0 then (slice_set s.0 class (s.1 + 1), s.1 + 1) else s

-- the numbers of the classes, counted from 0
abbrev pub numbers_from : List ℕ → List ℕ → List ℕ
numbers_from given classes = map (λ c. slice_index given c - 1) classes

-- whether an edge goes from the node to one of its class
abbrev pub is_looped : Graph → List ℕ → ℕ → Bool
is_looped g classes v = list_any (λ w. slice_index classes w == slice_index classes v) (edges g v)

abbrev pub are_trivial : Graph → List ℕ → List (List ℕ) → List Bool
are_trivial g classes members = map (λ row. not (list_any (is_looped g classes) row)) members

-- The rows have each place from 1 to below i, in the row of its number.
pub record HasMembers (numbers : List ℕ) (count i : ℕ) (rows : List (List ℕ)) : Type 0 where
  pub size : length rows ≡ count
  pub has : (k v : ℕ) → k < count → is_in (slice_index_or rows k []) v ≡ (nat_lt 0 v && (nat_lt v i && (slice_index numbers v == k)))

-- Places from 1 to the last have numbers below the count, the same where the classes are.
pub record AreNumbered (classes : List ℕ) (last : ℕ) (numbers : List ℕ) (count : ℕ) : Type 0 where
  pub size : length numbers ≡ last + 1
  pub within : (v : ℕ) → 0 < v → v < length numbers → slice_index numbers v < count
  pub same : (v w : ℕ) → slice_index classes v ≡ slice_index classes w → v < length numbers → w < length numbers → slice_index numbers v ≡ slice_index numbers w
  pub apart : (v w : ℕ) → 0 < v → v < length numbers → 0 < w → w < length numbers → slice_index numbers v ≡ slice_index numbers w → slice_index classes v ≡ slice_index classes w
