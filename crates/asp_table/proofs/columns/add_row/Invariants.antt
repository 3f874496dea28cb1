use Rattle.std.proofs.Common.{◌≡◌, ℕ, ◌<◌, ◌++◌, [], length, get_or, take}
use Rattle.asp_table.specs.Columns.{cell_of}
use Rattle.asp_table.proofs.columns.add_row.Given as goal

abbrev pub invariant-loop-place : goal.invariant-loop-place
invariant-loop-place l = record {
  count : length l.columns ≡ length l.initial.columns;
  cells : (k : ℕ) → k < length l.initial.columns → get_or l.columns k [] ≡ get_or l.initial.columns k [] ++ cell_of l.body k (take l.place l.keys);
}
