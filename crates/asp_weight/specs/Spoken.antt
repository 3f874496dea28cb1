-- What a body that isn't silent says, and the literals that make a nogood of it.
use Rattle.std.specs.Prelude.{◌≡◌, ℕ, ◌+◌, ◌<◌, ◌≤◌, ◌^◌, nat_le, Bool, true, not, if◌then◌else◌, List, [], ◌∷◌, ◌++◌, length, slice_index_or, Option, Some, None}
use Rattle.std.specs.List.{All, AllPairs}
use Rattle.asp_vars.specs.Literals.{Literal, F, value_of, holds_in}
use Rattle.asp_trail.specs.Fixpoint.{is_open}
use Rattle.asp_weight.specs.declared.item.Item.{Item}
use Rattle.asp_weight.specs.declared.item.Shape.{Shape}
use Rattle.asp_weight.specs.declared.look.Speech.{Speech}
use Rattle.asp_weight.specs.Rows.{on, weight_if, sum_where, total_of, need_of, shape_at, row_at}

-- the item's literal for a side, if it holds
abbrev pub held : Bool → List (Option Bool) → Item → List Literal
held side a i = if holds_in a (on side i.lit) then on side i.lit ∷ [] else []

-- Literals for a side that hold, in the order of the row, until the sum is enough.
abbrev pub gathered : Bool → List (Option Bool) → ℕ → ℕ → List Item → List Literal
gathered side a need sum [] = []
gathered side a need sum (i ∷ row) =
    if nat_le need sum then [] else held side a i ++ gathered side a need (sum + weight_if (holds_in a) side i) row

-- that the body is false, against one side, or true
abbrev pub head_of : Bool → Shape → Literal
head_of side s = record { var = s.var; truth = not side }

abbrev pub item_at : List Item → ℕ → Item
item_at row j = slice_index_or row j (record { weight = 0; lit = F 0 })

abbrev pub spoken_as : Option ℕ → Bool → List (Option Bool) → Shape → List Item → List Literal
spoken_as None side a s row = head_of side s ∷ gathered side a (need_of side s) 0 row
spoken_as (Some j) side a s row =
    on side (item_at row j).lit ∷ head_of side s ∷ gathered side a (need_of side s) (item_at row j).weight row

abbrev pub spoken : Speech → List (Option Bool) → Shape → List Item → List Literal
spoken x a s row = spoken_as x.open x.side a s row

-- A side is settled, by the literals that hold or by an open one with them.
abbrev pub Settles : Option ℕ → Bool → List (Option Bool) → Shape → List Item → Type 0
Settles None side a s row = (need_of side s ≤ sum_where (holds_in a) side row) × (value_of a s.var ≡ Some side → ⊥)
Settles (Some j) side a s row =
    (j < length row) × (is_open a (item_at row j).lit ≡ true) × (value_of a s.var ≡ Some (not side))
    × (need_of side s ≤ (item_at row j).weight + sum_where (holds_in a) side row)

abbrev pub Speaks : Speech → List (Option Bool) → Shape → List Item → Type 0
Speaks x a s row = Settles x.open x.side a s row

-- what a look at a body asks for
pub record IsReady (a : List (Option Bool)) (s : Shape) (row : List Item) : Type 0 where
  pub var : s.var < length a
  pub small : s.var < 2 ^ 31
  pub within : All (λ i. i.lit.var < length a) row
  pub falling : AllPairs (λ i j. j.weight ≤ i.weight) row
  pub fits : total_of row < 2 ^ 63
  pub whole : total_of row < s.reach + s.miss

pub record AreReady (a : List (Option Bool)) (shapes : List Shape) (rows : List (List Item)) : Type 0 where
  pub shaped : length shapes ≡ length rows
  pub each : (w : ℕ) → w < length rows → IsReady a (shape_at shapes w) (row_at rows w)
