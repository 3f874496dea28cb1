-- Where an atom is looked for in a set.
use Rattle.std.specs.Prelude.{ℕ, ◌<◌, ◌≤◌, List, length, slice_index}

-- All atoms before the place are below this one.
abbrev pub IsBehind : List ℕ → ℕ → ℕ → Type 0
IsBehind atoms place a = (place ≤ length atoms) × ((k : ℕ) → k < place → slice_index atoms k < a)
