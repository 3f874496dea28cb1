use Rattle.std.proofs.Common.{drop, flat_map}
use Rattle.asp_buffer.specs.Out.{out}
use Rattle.asp_proof.specs.Texts.{natural_field}
use Rattle.asp_buffer.proofs.OutLaws.{Midway}
use Rattle.asp_proof.proofs.write.put_each_atom.Given as goal

abbrev pub invariant-loop-atom : goal.invariant-loop-atom
invariant-loop-atom g l =
    Midway (out (g.K.Sink.held l.initial.sink) (g.K.Sink.faults l.initial.sink) l.initial.waiting)
    (out (g.K.Sink.held l.sink) (g.K.Sink.faults l.sink) l.waiting)
    (flat_map natural_field l.atoms) (flat_map natural_field (drop l.atom-index l.atoms))
