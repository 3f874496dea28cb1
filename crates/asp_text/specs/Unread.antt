-- A text of which some lines were taken.
use Rattle.std.specs.Prelude.{ℕ, List}

-- the bytes that no line was made of yet, how many lines were taken, and how many bytes came in all
pub record Unread : Type 0 where
  pub bytes : List ℕ
  pub given : ℕ
  pub fed : ℕ

-- the most bytes that may come, so that each line has a number of 32 bits
abbrev pub most_bytes : ℕ
most_bytes = 4294967294
