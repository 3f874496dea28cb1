use Rattle.std.proofs.Common.{drop}
use Rattle.asp_buffer.specs.Out.{out}
use Rattle.asp_buffer.proofs.OutLaws.{Midway}
use Rattle.asp_print.specs.Queries.{literals_text}
use Rattle.asp_print.proofs.query.put_literals.Given as goal

abbrev pub invariant-loop-literal : goal.invariant-loop-literal
invariant-loop-literal g l =
    Midway (out (g.K.Sink.held l.initial.sink) (g.K.Sink.faults l.initial.sink) l.initial.waiting)
    (out (g.K.Sink.held l.sink) (g.K.Sink.faults l.sink) l.waiting)
    (literals_text l.names l.outputs l.literals) (literals_text l.names l.outputs (drop l.literal-index l.literals))
