use Rattle.std.proofs.Common.{◌≡◌, ℕ, ◌<◌, length, get_or}
use Rattle.asp_equal.specs.Copies.{least}
use Rattle.asp_equal.specs.Tables.{root_in}
use Rattle.asp_equal.proofs.copies.lower.Given as goal

abbrev pub invariant-loop-place : goal.invariant-loop-place
invariant-loop-place l = (r : ℕ) → r < length l.known → least (root_in l.known l.named) r l.place (get_or l.table r 0) ≡ least (root_in l.known l.named) r (length l.known) r
