use Rattle.std.proofs.Common.{◌≡◌, ◌++◌, ◌<◌, true, drop}
use Rattle.asp_print.specs.Shown.{pieces}
use Rattle.asp_print.specs.Rows.{row_between}
use Rattle.asp_print.proofs.outputs.OutputTable.run_end.Given as goal

abbrev pub invariant-loop-i : goal.invariant-loop-i
invariant-loop-i l = record {
  run : pieces l.self.between l.row.set true (drop l.from l.outputs) ≡ row_between l.self.between l.outputs l.from l.i ++ pieces l.self.between l.row.set true (drop l.i l.outputs);
  more : l.from < l.i;
}
