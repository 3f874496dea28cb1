-- How the places at a priority are gathered.
use Rattle.std.specs.Prelude.{◌≡◌, ◌≢◌, ℕ, zero, suc, ◌+◌, ◌*◌, ◌<◌, ◌==◌, nat_lt, if◌then◌else◌, List, [], ◌∷◌, ◌++◌, Bool, true, false, max, length, sum_by, slice_index_or, slice_set, None, ℤ, pos}
use Rattle.std.specs.List.{All, Contains}
use Rattle.asp_bound.specs.declared.place.Place.{Place}
use Rattle.asp_bound.specs.declared.place.Item.{Item}
use Rattle.asp_bound.specs.declared.place.Addition.{Addition}
use Rattle.asp_bound.specs.Optimism.{least, sum_to}
use Rattle.asp_bound.specs.Rises.{rise, raised, row_at}

abbrev pub most_of : ℤ → ℤ → ℕ
most_of t f = max (rise true t f) (rise false t f)

abbrev pub addition_of : ℕ → ℤ → ℤ → Addition
addition_of v t f = record { var = v; if_true = rise true t f; if_false = rise false t f; most = most_of t f }

-- what the variable adds, if either value adds something
abbrev pub additions_of : ℕ → ℤ → ℤ → List Addition
additions_of v t f = if nat_lt 0 (most_of t f) then addition_of v t f ∷ [] else []

abbrev pub weight_true : List ℤ → ℕ → ℤ
weight_true weights v = slice_index_or weights (2 * v) (pos 0)

abbrev pub weight_false : List ℤ → ℕ → ℤ
weight_false weights v = slice_index_or weights (2 * v + 1) (pos 0)

-- what the variables up to n add
abbrev pub additions_to : List ℤ → ℕ → List Addition
additions_to weights zero = []
additions_to weights (suc n) = additions_to weights n ++ additions_of (suc n) (weight_true weights (suc n)) (weight_false weights (suc n))

abbrev pub added_by : Bool → Addition → ℕ
added_by true a = a.if_true
added_by false a = a.if_false

-- what the variable adds by a value, if the addition is its own
abbrev pub added_at : ℕ → Bool → Addition → ℕ
added_at v b a = if a.var == v then added_by b a else 0

abbrev pub item_of : Addition → Item
item_of a = record { var = a.var; most = a.most }

-- its place at the j-th priority, whose i-th item it is
abbrev pub place_of : ℕ → ℕ → Addition → Place
place_of j i a = record { level = j; index = i; if_true = a.if_true; if_false = a.if_false }

-- The rows have the places of the additions at the j-th priority.
pub record ArePlaced (j : ℕ) (additions : List Addition) (rows new : List (List Place)) : Type 0 where
  pub count : length new ≡ length rows
  pub within : (n v : ℕ) → j < n → All (λ o. o.level < n) (row_at rows v) → All (λ o. o.level < n) (row_at new v)
  pub kept : (k v : ℕ) (b : Bool) → k ≢ j → raised (row_at new v) k b ≡ raised (row_at rows v) k b
  pub sums : (v : ℕ) (b : Bool) → raised (row_at new v) j b ≡ raised (row_at rows v) j b + sum_by (added_at v b) additions
  pub grown : (v : ℕ) (o : Place) → Contains (row_at rows v) o → Contains (row_at new v) o
  pub linked : (i : ℕ) (d : Addition) → i < length additions → Contains (row_at new (slice_index_or additions i d).var) (place_of j i (slice_index_or additions i d))

-- the weights with those of a variable put to 0
abbrev pub without : List ℤ → ℕ → List ℤ
without weights v = slice_set (slice_set weights (2 * v) (pos 0)) (2 * v + 1) (pos 0)

-- what a variable without a value costs at least
abbrev pub least_by : List ℤ → ℕ → ℤ
least_by weights v = least None (weight_true weights v) (weight_false weights v)

-- what the variables up to n cost at least
abbrev pub least_to : List ℤ → ℕ → ℤ
least_to weights n = sum_to (least_by weights) n
