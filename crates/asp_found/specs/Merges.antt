-- Two ascending lists read side by side.
use Rattle.std.specs.Prelude.{ℕ, ◌<◌, ◌≤◌, List, length, slice_index}

-- The atoms before the place are below the atom, and the one that stands there isn't.
pub record IsReached (atoms : List ℕ) (place a : ℕ) : Type 0 where
  pub within : place ≤ length atoms
  pub before : (k : ℕ) → k < place → slice_index atoms k < a
  pub here : place < length atoms → a ≤ slice_index atoms place
