use Rattle.std.proofs.Common.{drop, false, map}
use Rattle.asp_buffer.specs.Out.{out}
use Rattle.asp_buffer.proofs.OutLaws.{Midway}
use Rattle.asp_json.specs.Commas.{commas}
use Rattle.asp_json.specs.Entries.{element}
use Rattle.asp_json.proofs.cores.put_elements.Given as goal

abbrev pub invariant-loop-literal : goal.invariant-loop-literal
invariant-loop-literal g l =
    Midway (out (g.K.Sink.held l.initial.sink) (g.K.Sink.faults l.initial.sink) l.initial.waiting)
    (out (g.K.Sink.held l.sink) (g.K.Sink.faults l.sink) l.waiting)
    (commas false (map (element l.names l.outputs) l.literals)) (commas l.any (map (element l.names l.outputs) (drop l.literal-index l.literals)))
