use Rattle.std.proofs.Common.{◌≡◌, take, length}
use Rattle.asp_unfold.specs.Tables.{AreDefinitions}
use Rattle.asp_unfold.proofs.table.note_rules.Given as goal

abbrev pub invariant-loop-i : goal.invariant-loop-i
invariant-loop-i l = record {
  len : length l.table ≡ length l.initial.table;
  each : AreDefinitions (take l.i l.rules) l.table;
}
