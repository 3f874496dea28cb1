use Rattle.std.proofs.Common.{drop, false, map}
use Rattle.asp_rows.specs.declared.row.Row.{Row}
use Rattle.asp_buffer.specs.Out.{out}
use Rattle.asp_buffer.proofs.OutLaws.{Midway}
use Rattle.asp_json.specs.Commas.{commas}
use Rattle.asp_json.specs.Json.{witness}
use Rattle.asp_json.proofs.answers.put_each.Given as goal

abbrev pub invariant-loop-row : goal.invariant-loop-row
invariant-loop-row g l =
    Midway (out (g.K.Sink.held l.initial.sink) (g.K.Sink.faults l.initial.sink) l.initial.waiting)
    (out (g.K.Sink.held l.sink) (g.K.Sink.faults l.sink) l.waiting)
    (commas false (map (witness l.program l.best) (map (λ (x : Row). x.set) l.rows))) (commas l.any (map (witness l.program l.best) (map (λ (x : Row). x.set) (drop l.row-index l.rows))))
