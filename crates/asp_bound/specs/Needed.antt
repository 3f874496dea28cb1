-- Which literals the bound's nogood needs.
use Rattle.std.specs.Prelude.{ℕ, suc, ◌<◌, ◌^◌, nat_le, Bool, false, if◌then◌else◌, List, [], ◌∷◌, length, slice_index_or, Option, Some, None, sum_by, ℤ, pos, neg_ℤ, ◌+ℤ◌, ◌-ℤ◌, ◌<ℤ◌, ◌≤ℤ◌}
use Rattle.std.specs.List.{All}
use Rattle.asp_vars.specs.Literals.{Literal}
use Rattle.asp_bound.specs.declared.place.Place.{Place}
use Rattle.asp_bound.specs.Rises.{raised, row_at}
use Rattle.asp_bound.specs.Reach.{reach}

-- whether so many of the first sums are enough to show that the bound is reached
abbrev pub is_shown : ℕ → Option ℕ → Bool
is_shown depth None = false
is_shown depth (Some n) = nat_le n depth

-- the sums, each without what stands at its place
abbrev pub lowered : (ℕ → ℕ) → List ℤ → List ℤ
lowered f [] = []
lowered f (s ∷ sums) = (s -ℤ pos (f 0)) ∷ lowered (λ j. f (suc j)) sums

-- what a literal adds at the j-th priority
abbrev pub raised_by : List (List Place) → ℕ → Literal → ℕ
raised_by rows j l = raised (row_at rows l.var) j l.truth

-- what the literals add at the j-th priority
abbrev pub total : List (List Place) → ℕ → List Literal → ℕ
total rows j lits = sum_by (raised_by rows j) lits

-- the sums without what the literal adds
abbrev pub without : List (List Place) → List ℤ → Literal → List ℤ
without rows sums l = lowered (λ j. raised_by rows j l) sums

-- Of these literals those without which the bound isn't reached at one of the first priorities, where each is left out, the first one
-- first, if it can be.
abbrev pub needed : List (List Place) → List ℤ → ℕ → List ℤ → List Literal → List Literal
needed rows bound depth sums [] = []
needed rows bound depth sums (l ∷ ls) =
    if is_shown depth (reach (without rows sums l) bound) then needed rows bound depth (without rows sums l) ls else l ∷ needed rows bound depth sums ls

-- The sums are such that what each of the literals adds can be taken away.
pub record MayFall (rows : List (List Place)) (sums : List ℤ) (lits : List Literal) : Type 0 where
  pub vars : All (λ l. (0 < l.var) × (l.var < length rows)) lits
  pub within : (v : ℕ) → All (λ o. o.level < length sums) (row_at rows v)
  pub small : (v j : ℕ) (b : Bool) → 0 < v → v < length rows → j < length sums → raised (row_at rows v) j b < 2 ^ 60
  pub low : (j : ℕ) → j < length sums → (neg_ℤ (pos (2 ^ 60)) +ℤ pos (total rows j lits)) ≤ℤ slice_index_or sums j (pos 0)
  pub high : (j : ℕ) → j < length sums → slice_index_or sums j (pos 0) <ℤ pos (2 ^ 60)
