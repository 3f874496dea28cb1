use Rattle.std.proofs.Common.{drop}
use Rattle.asp_buffer.specs.Out.{out}
use Rattle.asp_print.specs.Shown.{pieces}
use Rattle.asp_buffer.proofs.OutLaws.{Midway}
use Rattle.asp_print.proofs.answers.put_texts.Given as goal

abbrev pub invariant-loop-i : goal.invariant-loop-i
invariant-loop-i g l =
    Midway (out (g.K.Sink.held l.initial.sink) (g.K.Sink.faults l.initial.sink) l.initial.waiting)
    (out (g.K.Sink.held l.sink) (g.K.Sink.faults l.sink) l.waiting)
    (pieces 32 (g.A.Answer.set l.answer) l.behind_another l.outputs) (pieces 32 (g.A.Answer.set l.answer) l.any (drop l.i l.outputs))
