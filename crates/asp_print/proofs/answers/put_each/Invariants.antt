use Rattle.std.proofs.Common.{◌≡◌, ◌+◌, drop, map}
use Rattle.asp_rows.specs.declared.row.Row.{Row}
use Rattle.asp_model.specs.Texts.{answers_from}
use Rattle.asp_buffer.specs.Out.{out}
use Rattle.asp_buffer.proofs.OutLaws.{Midway}
use Rattle.asp_print.proofs.answers.put_each.Given as goal

abbrev pub invariant-loop-row : goal.invariant-loop-row
invariant-loop-row g l = record {
  number : l.number ≡ l.first + l.row-index;
  text : Midway (out (g.K.Sink.held l.initial.sink) (g.K.Sink.faults l.initial.sink) l.initial.waiting)
      (out (g.K.Sink.held l.sink) (g.K.Sink.faults l.sink) l.waiting)
      (answers_from l.program l.first (map (λ (x : Row). x.set) l.rows)) (answers_from l.program l.number (map (λ (x : Row). x.set) (drop l.row-index l.rows)));
}
