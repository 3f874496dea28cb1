use Rattle.std.proofs.Common.{◌*◌, ◌^◌, drop}
use Rattle.std.specs.Prelude.{pos, neg_ℤ, ◌≤ℤ◌}
use Rattle.asp_bound.proofs.TakenLaws.{IsTaken}
use Rattle.asp_bound.proofs.levels.take_additions.Given as goal

-- the first items' variables were taken
abbrev pub invariant-loop-literal : goal.invariant-loop-literal
invariant-loop-literal l = record {
  taken : IsTaken l.compiled (drop l.literal-index l.items) l.initial.weights l.additions.items l.weights l.least;
  low : neg_ℤ (pos (2 ^ 56 * l.literal-index)) ≤ℤ l.least;
  high : l.least ≤ℤ pos (2 ^ 56 * l.literal-index);
}
