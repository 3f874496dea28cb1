use Rattle.std.proofs.Common.{ℕ, ◌<◌, ◌≤◌, length, slice_index}
use Rattle.asp_member.proofs.merge.skip.Given as goal

abbrev pub invariant-loop-place : goal.invariant-loop-place
invariant-loop-place l = (l.place ≤ length l.atoms) × ((k : ℕ) → k < l.place → slice_index l.atoms k < l.atom)
