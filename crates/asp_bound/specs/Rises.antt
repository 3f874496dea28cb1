-- By how much a value raises the optimistic cost.
use Rattle.std.specs.Prelude.{◌≡◌, ℕ, ◌+◌, ◌<◌, ◌≤◌, ◌^◌, ◌==◌, Bool, true, false, if◌then◌else◌, List, [], length, sum_by, slice_index_or, ℤ, pos, negsuc, ◌-ℤ◌}
use Rattle.std.specs.List.{All, AllPairs, Contains}
use Rattle.asp_model.specs.declared.program.Program.{Program}
use Rattle.asp_model.specs.Costs.{priorities}
use Rattle.asp_vars.specs.Literals.{T, F}
use Rattle.asp_vars.specs.Numbering.{var_count}
use Rattle.asp_bound.specs.declared.place.Place.{Place}
use Rattle.asp_bound.specs.declared.place.Item.{Item}
use Rattle.asp_bound.specs.Optimism.{weight_at}

-- the number, if it is positive
abbrev pub above : ℤ → ℕ
above (pos n) = n
above (negsuc n) = 0

-- what the value adds to the least cost of a variable without one
abbrev pub rise : Bool → ℤ → ℤ → ℕ
rise true t f = above (t -ℤ f)
rise false t f = above (f -ℤ t)

abbrev pub rise_at : Program → ℤ → ℕ → Bool → ℕ
rise_at p q v b = rise b (weight_at p q (T v)) (weight_at p q (F v))

abbrev pub nth_priority : Program → ℕ → ℤ
nth_priority p j = slice_index_or (priorities p.minimize) j (pos 0)

-- what a place adds by a value
abbrev pub rise_by : Bool → Place → ℕ
rise_by true o = o.if_true
rise_by false o = o.if_false

-- what a row of places adds at the j-th priority
abbrev pub raised : List Place → ℕ → Bool → ℕ
raised row j b = sum_by (λ o. if o.level == j then rise_by b o else 0) row

abbrev pub row_at : List (List Place) → ℕ → List Place
row_at rows v = slice_index_or rows v []

-- Each variable's places add up to what its values add, at each priority.
pub record AreRows (p : Program) (rows : List (List Place)) : Type 0 where
  pub count : length rows ≡ var_count p + 1
  pub within : (v : ℕ) → All (λ o. o.level < length (priorities p.minimize)) (row_at rows v)
  pub sums : (j v : ℕ) (b : Bool) → j < length (priorities p.minimize) → 0 < v → v ≤ var_count p → raised (row_at rows v) j b ≡ rise_at p (nth_priority p j) v b

-- The items of a priority fall, and have each variable that adds to it, with as much as it adds at most.
pub record IsColumn (p : Program) (q : ℤ) (column : List Item) : Type 0 where
  pub within : All (λ i. (0 < i.var) × (i.var ≤ var_count p)) column
  pub small : All (λ i. i.most < 2 ^ 57) column
  pub falling : AllPairs (λ i k. k.most ≤ i.most) column
  pub whole : (v : ℕ) (b : Bool) → 0 < v → v ≤ var_count p → 0 < rise_at p q v b → (x : Item) × Contains column x × (x.var ≡ v) × (rise_at p q v b ≤ x.most)

pub record AreColumns (p : Program) (columns : List (List Item)) : Type 0 where
  pub count : length columns ≡ length (priorities p.minimize)
  pub each : (j : ℕ) → j < length columns → IsColumn p (nth_priority p j) (slice_index_or columns j [])
