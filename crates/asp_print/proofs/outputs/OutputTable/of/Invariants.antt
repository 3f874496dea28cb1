use Rattle.std.proofs.Common.{◌≡◌, ℕ, ◌+◌, ◌≤◌, take, length, get_or}
use Rattle.asp_print.specs.Rows.{AreConditionsOf, row}
use Rattle.asp_print.proofs.outputs.OutputTable.of.Given as goal

abbrev pub invariant-loop-i : goal.invariant-loop-i
invariant-loop-i l = record {
  conditions : AreConditionsOf l.atoms (take l.i l.outputs) l.conditions.items;
  texts : l.texts.items ≡ row l.between (take l.i l.outputs);
  count : length l.starts.items ≡ l.i + 1;
  starts : (k : ℕ) → k ≤ l.i → get_or l.starts.items k 0 ≡ length (row l.between (take k l.outputs));
}
