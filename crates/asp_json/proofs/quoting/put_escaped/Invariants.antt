use Rattle.std.proofs.Common.{drop, flat_map}
use Rattle.asp_buffer.specs.Out.{out}
use Rattle.asp_buffer.proofs.OutLaws.{Midway}
use Rattle.asp_json.specs.Quoting.{escaped}
use Rattle.asp_json.proofs.quoting.put_escaped.Given as goal

abbrev pub invariant-loop-byte : goal.invariant-loop-byte
invariant-loop-byte g l =
    Midway (out (g.K.Sink.held l.initial.sink) (g.K.Sink.faults l.initial.sink) l.initial.waiting)
    (out (g.K.Sink.held l.sink) (g.K.Sink.faults l.sink) l.waiting)
    (flat_map escaped l.text) (flat_map escaped (drop l.byte-index l.text))
