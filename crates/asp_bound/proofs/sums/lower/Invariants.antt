use Rattle.std.proofs.Common.{◌≡◌, ℕ, ◌<◌, length, get_or, take, pos, ◌+ℤ◌}
use Rattle.asp_bound.specs.Rises.{raised}
use Rattle.asp_bound.proofs.sums.lower.Given as goal

abbrev pub invariant-loop-place : goal.invariant-loop-place
invariant-loop-place l = (j : ℕ) → j < length l.sums → get_or l.sums j (pos 0) +ℤ pos (raised (take l.place-index l.row) j l.truth) ≡ get_or l.initial.sums j (pos 0)
