-- Where a raised cost reaches the bound.
use Rattle.std.specs.Prelude.{ℕ, suc, if◌then◌else◌, List, [], ◌∷◌, Option, Some, None, ℤ, pos, ◌+ℤ◌}
use Rattle.std.specs.Option.{option_map}
use Rattle.std.specs.Ordering.{int_cmp, int_eq}
use Rattle.std.specs.declared.cmp.Ordering.{Ordering}
use Rattle.std.specs.declared.cmp.Ordering.TheVariants.{Less, Equal, Greater}

-- what a sum and those that follow it show
abbrev pub reach_by : Ordering → Option ℕ → Option ℕ
reach_by Less r = None
reach_by Equal r = option_map (λ n. suc n) r
reach_by Greater r = Some 1

-- How many of the first sums show that they aren't smaller than the bound, if they aren't.
abbrev pub reach : List ℤ → List ℤ → Option ℕ
reach sums [] = Some 0
reach [] (c ∷ cs) = None
reach (s ∷ sums) (c ∷ cs) = reach_by (int_cmp s c) (reach sums cs)

-- how many of the first sums can have a part in reaching it: up to the first that differs
abbrev pub depth : List ℤ → List ℤ → ℕ
depth sums [] = 0
depth [] (c ∷ cs) = 0
depth (s ∷ sums) (c ∷ cs) = if int_eq s c then suc (depth sums cs) else 1

-- the sums, each raised by what stands at its place
abbrev pub lifted : (ℕ → ℕ) → List ℤ → List ℤ
lifted f [] = []
lifted f (s ∷ sums) = (s +ℤ pos (f 0)) ∷ lifted (λ j. f (suc j)) sums
