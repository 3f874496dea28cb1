use Rattle.std.proofs.Common.{◌+◌, length, flat_map}
use Rattle.asp_model.specs.Sets.{IsAscending}
use Rattle.asp_buffer.specs.Out.{out}
use Rattle.asp_proof.specs.Texts.{natural_field}
use Rattle.asp_proof.specs.Changes.{changed}
use Rattle.asp_buffer.proofs.OutLaws.{Midway}
use Rattle.asp_proof.proofs.write.put_each_changed.Given as goal

abbrev pub invariant-turns : goal.invariant-turns
invariant-turns g l = record {
  one : IsAscending l.one;
  other : IsAscending l.other;
  midway : Midway (out (g.K.Sink.held l.initial.sink) (g.K.Sink.faults l.initial.sink) l.initial.waiting)
      (out (g.K.Sink.held l.sink) (g.K.Sink.faults l.sink) l.waiting)
      (flat_map natural_field (changed l.initial.one l.initial.other)) (flat_map natural_field (changed l.one l.other));
}

abbrev pub decreases-turns : goal.decreases-turns
decreases-turns g l = length l.one + length l.other
