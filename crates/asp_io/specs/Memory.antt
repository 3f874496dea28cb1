-- What a source or a sink in memory has and does.
use Rattle.std.specs.Prelude.{ℕ, ◌+◌, ◌==◌, ◌||◌, min, Bool, List}
use Rattle.std.specs.List.{list_any}
use Rattle.asp_io.specs.Causes.{last_count}

-- the bytes that are left, the greatest piece, the numbers of the reads that fail, the calls and the faults so far
pub record Feed : Type 0 where
  pub bytes : List ℕ
  pub piece : ℕ
  pub failing : List ℕ
  pub calls : ℕ
  pub faults : ℕ

-- the bytes that it holds, the greatest piece, the numbers of the writes that fail, the writes and the faults so far, whether flushes
-- fail, and whether nothing was written since the last flush that succeeded
pub record Intake : Type 0 where
  pub bytes : List ℕ
  pub piece : ℕ
  pub failing : List ℕ
  pub calls : ℕ
  pub faults : ℕ
  pub fails_flush : Bool
  pub is_sent : Bool

-- a count of calls after one more
abbrev pub next_count : ℕ → ℕ
next_count calls = min (calls + 1) last_count

-- whether the next read fails
abbrev pub fails_read : Feed → Bool
fails_read f = f.faults == last_count || list_any (λ call. call == next_count f.calls) f.failing

-- whether the next write fails, where memory is ample
abbrev pub fails_write : Intake → Bool
fails_write f = f.faults == last_count || list_any (λ call. call == next_count f.calls) f.failing
