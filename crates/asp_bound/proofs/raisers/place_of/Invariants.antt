use Rattle.std.proofs.Common.{◌≡◌, ℕ, ◌<◌, ◌≤◌, length, get_or}
use Rattle.asp_bound.proofs.raisers.place_of.Given as goal

abbrev pub invariant-loop-left : goal.invariant-loop-left
invariant-loop-left l = (l.left ≤ length l.vars) × ((k : ℕ) → l.left ≤ k → k < length l.vars → get_or l.vars k 0 ≡ l.var → ⊥)

abbrev pub decreases-loop-left : goal.decreases-loop-left
decreases-loop-left l = l.left
