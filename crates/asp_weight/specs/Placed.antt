-- The places of literals in weight bodies, by variable.
use Rattle.std.specs.Prelude.{◌≡◌, ℕ, ◌<◌, ◌≤◌, ◌^◌, ◌==◌, true, Bool, if◌then◌else◌, List, [], ◌∷◌, ◌++◌, map, fold, length, sum_by, slice_index_or, slice_set}
use Rattle.std.specs.List.{All, list_any}
use Rattle.asp_vars.specs.Literals.{Literal, literal_eq}
use Rattle.asp_weight.specs.declared.item.Item.{Item}
use Rattle.asp_weight.specs.declared.item.Shape.{Shape}
use Rattle.asp_weight.specs.declared.item.Place.{Place}
use Rattle.asp_weight.specs.Rows.{row_at, shape_at}
use Rattle.asp_weight.specs.Tallied.{sum_in}

abbrev pub places_at : List (List Place) → ℕ → List Place
places_at places v = slice_index_or places v []

-- the sum of a literal's weights in a row
abbrev pub weight_at : Literal → Item → ℕ
weight_at l i = if literal_eq i.lit l then i.weight else 0

abbrev pub sum_at : Literal → List Item → ℕ
sum_at l row = sum_by (weight_at l) row

abbrev pub touches : ℕ → List Place → Bool
touches w places = list_any (λ o. o.body == w) places

-- ---- how the places are gathered
-- the places without their bits, which are hints
abbrev pub bare_place : Place → Place
bare_place o = record { weight = o.weight; body = o.body; bit = 0; truth = o.truth }

abbrev pub bare : List (List Place) → List (List Place)
bare places = map (map bare_place) places

abbrev pub put : ℕ → List (List Place) → Place → List (List Place)
put v places o = slice_set places v (places_at places v ++ o ∷ [])

abbrev pub place_of : ℕ → Item → Place
place_of w i = record { weight = i.weight; body = w; bit = 0; truth = i.lit.truth }

abbrev pub put_row : ℕ → List (List Place) → List Item → List (List Place)
put_row w places row = fold (λ ps i. put i.lit.var ps (place_of w i)) places row

-- A variable's places have, for each body, the weights of its literals; a body's own variable has a place in it.
pub record ArePlaces (shapes : List Shape) (rows : List (List Item)) (places : List (List Place)) : Type 0 where
  pub sums : (w v : ℕ) (truth : Bool) → sum_in w truth (places_at places v) ≡ sum_at (record { var = v; truth = truth }) (row_at rows w)
  pub own : (w : ℕ) → w < length rows → touches w (places_at places (shape_at shapes w).var) ≡ true
  pub within : (v : ℕ) → All (λ o. o.body < length rows) (places_at places v)

-- a body's place in its own variable
abbrev pub own_of : ℕ → Place
own_of w = record { weight = 0; body = w; bit = 0; truth = true }

-- The variables are among those up to vars.
pub record HaveRoom (vars : ℕ) (shapes : List Shape) (rows : List (List Item)) : Type 0 where
  pub shaped : length shapes ≡ length rows
  pub few : length rows < 2 ^ 31
  pub own : (w : ℕ) → w < length rows → (shape_at shapes w).var ≤ vars
  pub within : (w : ℕ) → w < length rows → All (λ i. i.lit.var ≤ vars) (row_at rows w)
