use Rattle.std.proofs.Common.{◌≡◌, ◌-◌, ◌<◌, ◌≤◌, drop, false, true, length}
use Rattle.asp_buffer.specs.Out.{out}
use Rattle.asp_print.specs.Shown.{pieces}
use Rattle.asp_print.specs.Rows.{shown_at}
use Rattle.asp_buffer.proofs.OutLaws.{Midway}
use Rattle.asp_print.proofs.answers.put_runs.Given as goal

abbrev pub invariant-loop-from : goal.invariant-loop-from
invariant-loop-from g l = record {
  text : Midway (out (g.K.Sink.held l.initial.sink) (g.K.Sink.faults l.initial.sink) l.initial.waiting)
      (out (g.K.Sink.held l.sink) (g.K.Sink.faults l.sink) l.waiting)
      (pieces l.table.between l.row.set false l.outputs) (pieces l.table.between l.row.set l.any (drop l.from l.outputs));
  within : l.from ≤ length l.outputs;
  shown : l.from < length l.outputs → shown_at l.row.set l.outputs l.from ≡ true;
}

abbrev pub decreases-loop-from : goal.decreases-loop-from
decreases-loop-from g l = length l.outputs - l.from
