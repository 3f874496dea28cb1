-- What workers told of their counts.
use Rattle.std.specs.Prelude.{◌≡◌, ℕ, ◌<◌, List, length, map, slice_index_or}
use Rattle.std.specs.List.{range_with_len}
use Rattle.asp_counts.specs.declared.counts.Counts.{Counts}
use Rattle.asp_counts.specs.declared.tallies.WorkerCounts.{WorkerCounts}
use Rattle.asp_counts.specs.Counting.{nothing, together}

-- there are n of them, numbered from 1 on, in order
abbrev pub AreNumbered : ℕ → List WorkerCounts → Type 0
AreNumbered n ws = map (λ w. w.worker) ws ≡ range_with_len 1 n

-- The sum of n counts, of which one, at this place from 0 on, if it is below n, is known.
pub record IsSumWith (n place : ℕ) (own sum : Counts) : Type 0 where
  pub all : List Counts
  pub count : length all ≡ n
  pub own_is : place < n → slice_index_or all place nothing ≡ own
  pub sum_is : sum ≡ together (λ c. c) all
