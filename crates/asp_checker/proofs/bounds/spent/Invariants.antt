use Rattle.std.proofs.Common.{◌≡◌, ◌*◌, ◌^◌, take}
use Rattle.std.specs.Prelude.{pos, neg_ℤ, ◌≤ℤ◌}
use Rattle.asp_checker.specs.Blocks.{sum_over}
use Rattle.asp_checker.proofs.bounds.spent.Given as goal

abbrev pub invariant-loop-var : goal.invariant-loop-var
invariant-loop-var l = record {
  sum : l.sum ≡ sum_over l.values l.weights (take l.var-index l.vars);
  low : neg_ℤ (pos (2 ^ 64 * l.var-index)) ≤ℤ l.sum;
  high : l.sum ≤ℤ pos (2 ^ 64 * l.var-index);
}
