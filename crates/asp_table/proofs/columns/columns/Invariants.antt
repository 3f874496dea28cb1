use Rattle.std.proofs.Common.{◌≡◌, ℕ, ◌<◌, [], length, get_or, take}
use Rattle.asp_table.specs.Columns.{column}
use Rattle.asp_table.proofs.columns.columns.Given as goal

abbrev pub invariant-loop-body : goal.invariant-loop-body
invariant-loop-body l = record {
  count : length l.columns ≡ l.count;
  cells : (k : ℕ) → k < l.count → get_or l.columns k [] ≡ column 0 k (take l.body l.rows);
}
