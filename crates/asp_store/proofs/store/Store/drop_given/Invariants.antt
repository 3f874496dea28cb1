use Rattle.std.proofs.Common.{◌≡◌, ℕ, ◌<◌, ◌⊎◌, length, get_or}
use Rattle.asp_store.specs.Keeping.{kept_at, unless_given}
use Rattle.asp_store.specs.Storing.{Loses}
use Rattle.asp_store.proofs.store.Store.drop_given.Given as goal

abbrev pub invariant-loop-i : goal.invariant-loop-i
invariant-loop-i l = record {
  loses : Loses l.fn.self l.self;
  count : length l.self.slots ≡ length l.fn.self.slots;
  given : l.self.given ≡ l.fn.self.given;
  done : (j : ℕ) → j < l.i → kept_at l.self.slots (get_or l.fn.self.given j 0) ≡ unless_given (kept_at l.fn.self.slots (get_or l.fn.self.given j 0));
  each : (k : ℕ) → (kept_at l.self.slots k ≡ kept_at l.fn.self.slots k) ⊎ (kept_at l.self.slots k ≡ unless_given (kept_at l.fn.self.slots k));
}
