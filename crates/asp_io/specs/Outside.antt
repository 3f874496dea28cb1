-- What contracts see of a sink to a writer of the system, whose bytes they don't see.
use Rattle.std.specs.Prelude.{ℕ, Bool}

-- how many writes and flushes failed, whether nothing was written since the last flush that succeeded, and whether the last failure
-- was that nobody reads
pub record Outlet : Type 0 where
  pub faults : ℕ
  pub is_sent : Bool
  pub is_closed : Bool
