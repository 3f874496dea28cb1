use Rattle.std.proofs.Common.{drop}
use Rattle.asp_buffer.specs.Out.{out}
use Rattle.asp_proof.specs.Texts.{lines}
use Rattle.asp_proof.specs.Texts.{line_text}
use Rattle.asp_buffer.proofs.OutLaws.{Midway}
use Rattle.asp_proof.proofs.write.put_lines.Given as goal

abbrev pub invariant-loop-entry : goal.invariant-loop-entry
invariant-loop-entry g l =
    Midway (out (g.K.Sink.held l.initial.sink) (g.K.Sink.faults l.initial.sink) l.initial.waiting)
    (out (g.K.Sink.held l.sink) (g.K.Sink.faults l.sink) l.waiting)
    (lines line_text l.entries) (lines line_text (drop l.entry-index l.entries))
