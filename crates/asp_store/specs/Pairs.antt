-- The two watched literals of a nogood: the first two of its row.
use Rattle.std.specs.Prelude.{◌≡◌, ℕ, ◌⊎◌, List, [], ◌∷◌, Option, Some, None}
use Rattle.asp_vars.specs.Literals.{Literal}
use Rattle.asp_arena.specs.Rows.{row_at}
use Rattle.asp_store.specs.declared.watch.Pair.{Pair}

-- the first two literals, if there are two
abbrev pub pair_of : List Literal → Option Pair
pair_of [] = None
pair_of (a ∷ []) = None
pair_of (a ∷ b ∷ row) = Some (record { first = a; second = b })

-- the watched literals of the nogood under a number, if it has any
abbrev pub pair_at : List (List Literal) → ℕ → Option Pair
pair_at rows id = pair_of (row_at rows id)

abbrev pub IsOneOf : Pair → Literal → Type 0
IsOneOf p l = (p.first ≡ l) ⊎ (p.second ≡ l)

-- The pair is of these two, in any order.
abbrev pub IsBeside : Pair → Literal → Literal → Type 0
IsBeside p l k = ((p.first ≡ l) × (p.second ≡ k)) ⊎ ((p.first ≡ k) × (p.second ≡ l))
