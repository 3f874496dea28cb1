use Rattle.std.proofs.Common.{drop, flat_map}
use Rattle.asp_buffer.specs.Out.{out}
use Rattle.asp_proof.specs.Texts.{integer_field}
use Rattle.asp_buffer.proofs.OutLaws.{Midway}
use Rattle.asp_proof.proofs.write.put_each_literal.Given as goal

abbrev pub invariant-loop-literal : goal.invariant-loop-literal
invariant-loop-literal g l =
    Midway (out (g.K.Sink.held l.initial.sink) (g.K.Sink.faults l.initial.sink) l.initial.waiting)
    (out (g.K.Sink.held l.sink) (g.K.Sink.faults l.sink) l.waiting)
    (flat_map integer_field l.literals) (flat_map integer_field (drop l.literal-index l.literals))
