use Rattle.std.proofs.Common.{◌≡◌, ◌++◌, ◌^◌, ℕ, ◌<◌, length, get_or, drop, pos, neg_ℤ, ◌+ℤ◌, ◌≤ℤ◌, ◌<ℤ◌}
use Rattle.asp_bound.specs.Needed.{total, needed}
use Rattle.asp_bound.proofs.needed.needed.Given as goal

abbrev pub invariant-loop-lit : goal.invariant-loop-lit
invariant-loop-lit l = record {
  rest : l.lits.items ++ needed l.rows l.bound l.depth l.sums (drop l.lit-index l.raising) ≡ needed l.rows l.bound l.depth l.initial.sums l.raising;
  low : (j : ℕ) → j < length l.sums → (neg_ℤ (pos (2 ^ 60)) +ℤ pos (total l.rows j (drop l.lit-index l.raising))) ≤ℤ get_or l.sums j (pos 0);
  high : (j : ℕ) → j < length l.sums → get_or l.sums j (pos 0) <ℤ pos (2 ^ 60);
}
