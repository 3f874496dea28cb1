-- The literals of a weight body with their weights, which fall.
use Rattle.std.specs.Prelude.{◌≡◌, ℕ, ◌+◌, ◌-◌, ◌<◌, ◌≤◌, ◌^◌, nat_lt, Bool, true, false, not, ◌||◌, ◌&&◌, if◌then◌else◌, List, [], map, sum_by, length, take, slice_index_or, filter, Option, Some, None, ℤ, pos, negsuc}
use Rattle.std.specs.List.{All, AllPairs, list_all}
use Rattle.std.specs.List.Sorted.{IsPermutation}
use Rattle.std.specs.Int.RustNames.{unsigned_abs}
use Rattle.asp_model.specs.declared.program.Body.{Body}
use Rattle.asp_model.specs.declared.program.Body.TheVariants as body
use Rattle.asp_model.specs.declared.program.Program.{Program}
use Rattle.asp_vars.specs.Literals.{Literal, complement, value_of, holds_in}
use Rattle.asp_vars.specs.Numbering.{bodies_of, var_count, var_of_form, literal_of}
use Rattle.asp_trail.specs.Fixpoint.{is_open}
use Rattle.asp_weight.specs.declared.item.Item.{Item}
use Rattle.asp_weight.specs.declared.item.Shape.{Shape}

-- A literal of a body speaks for it; its complement speaks against it.
abbrev pub on : Bool → Literal → Literal
on true l = l
on false l = complement l

abbrev pub weight_if : (Literal → Bool) → Bool → Item → ℕ
weight_if t side i = if t (on side i.lit) then i.weight else 0

-- the sum of the weights whose literals for that side pass a test
abbrev pub sum_where : (Literal → Bool) → Bool → List Item → ℕ
sum_where t side row = sum_by (weight_if t side) row

abbrev pub total_of : List Item → ℕ
total_of row = sum_by (λ i. i.weight) row

-- ---- the weight bodies
abbrev pub is_weighed : Body → Bool
is_weighed (body.All literals) = false
is_weighed (body.AtLeast bound items) = true

abbrev pub weighed_bodies : Program → List Body
weighed_bodies p = filter is_weighed (bodies_of p)

abbrev pub nth_weighed : Program → ℕ → Body
nth_weighed p w = slice_index_or (weighed_bodies p) w (body.All [])

abbrev pub item_of : Program → ℤ × ℤ → Item
item_of p i = record { weight = unsigned_abs i.1; lit = literal_of p i.0 }

abbrev pub row_of : Program → Body → List Item
row_of p (body.All literals) = []
row_of p (body.AtLeast bound items) = map (item_of p) items

-- the sum from which on the body is true
abbrev pub clamped : ℤ → ℕ
clamped (pos n) = n
clamped (negsuc n) = 0

abbrev pub reach_of : Body → ℕ
reach_of (body.All literals) = 0
reach_of (body.AtLeast bound items) = clamped bound

-- the weight bodies among the first n bodies
abbrev pub first_weighed : Program → ℕ → List Body
first_weighed p n = filter is_weighed (take n (bodies_of p))

-- The row is the body's.
pub record IsOrdered (p : Program) (b : Body) (row : List Item) : Type 0 where
  pub items : IsPermutation (row_of p b) row
  pub falling : AllPairs (λ i j. j.weight ≤ i.weight) row
  pub positive : All (λ i. 0 < i.weight) row
  pub within : All (λ i. (0 < i.lit.var) × (i.lit.var ≤ var_count p)) row

-- The shape says from which sums on the body is true, and from which sums of complements on it is false.
pub record IsRow (p : Program) (b : Body) (s : Shape) (row : List Item) : Type 0 where
  pub ordered : IsOrdered p b row
  pub var : s.var ≡ var_of_form p b
  pub small : (0 < s.var) × (s.var ≤ var_count p)
  pub fits : total_of row < 2 ^ 63
  pub reach : s.reach ≡ reach_of b
  pub miss : s.miss ≡ total_of row + 1 - s.reach

abbrev pub shape_at : List Shape → ℕ → Shape
shape_at shapes w = slice_index_or shapes w (record { var = 0; reach = 0; miss = 0 })

abbrev pub row_at : List (List Item) → ℕ → List Item
row_at rows w = slice_index_or rows w []

-- one shape and one row for each weight body
pub record AreRows (p : Program) (bodies : List Body) (shapes : List Shape) (rows : List (List Item)) : Type 0 where
  pub shaped : length shapes ≡ length bodies
  pub whole : length rows ≡ length bodies
  pub row : (w : ℕ) → w < length bodies → IsRow p (slice_index_or bodies w (body.All [])) (shape_at shapes w) (row_at rows w)

-- ---- silence, from the rows
abbrev pub need_of : Bool → Shape → ℕ
need_of true s = s.reach
need_of false s = s.miss

-- the side isn't settled
abbrev pub is_under : Bool → List (Option Bool) → Shape → List Item → Bool
is_under side a s row = nat_lt (sum_where (holds_in a) side row) (need_of side s)

-- and one more literal doesn't settle it
abbrev pub is_short : Bool → List (Option Bool) → Shape → List Item → Bool
is_short side a s row =
    is_under side a s row
    && list_all (λ i. not (is_open a i.lit) || nat_lt i.weight (need_of side s - sum_where (holds_in a) side row)) row

abbrev pub is_silent_row_as : Option Bool → List (Option Bool) → Shape → List Item → Bool
is_silent_row_as None a s row = is_under true a s row && is_under false a s row
is_silent_row_as (Some true) a s row = is_short false a s row
is_silent_row_as (Some false) a s row = is_short true a s row

abbrev pub is_silent_row : List (Option Bool) → Shape → List Item → Bool
is_silent_row a s row = is_silent_row_as (value_of a s.var) a s row
