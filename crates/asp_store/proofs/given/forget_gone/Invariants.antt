use Rattle.std.proofs.Common.{◌≡◌, ℕ, ◌-◌, true, length}
use Rattle.asp_store.specs.Keeping.{kept_at, is_from_propagator}
use Rattle.asp_store.specs.Storing.{Has}
use Rattle.asp_store.proofs.given.forget_gone.Given as goal

abbrev pub decreases-numbers : goal.decreases-numbers
decreases-numbers l = length l.given.items - l.i

abbrev pub invariant-numbers : goal.invariant-numbers
invariant-numbers l = (k : ℕ) → is_from_propagator (kept_at l.slots k) ≡ true → Has l.fn.given.items k → Has l.given.items k
