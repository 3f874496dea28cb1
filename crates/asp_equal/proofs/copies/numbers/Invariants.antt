use Rattle.std.proofs.Common.{◌≡◌, ℕ, ◌<◌, length, get_or}
use Rattle.asp_equal.proofs.copies.numbers.Given as goal

abbrev pub invariant-loop-place : goal.invariant-loop-place
invariant-loop-place l = (length l.table.items ≡ l.place) × ((a : ℕ) → a < l.place → get_or l.table.items a 0 ≡ a)
