use Rattle.std.proofs.Common.{drop, filter, flat_map}
use Rattle.std.specs.Option.{option_copied}
use Rattle.asp_buffer.specs.Out.{out}
use Rattle.asp_buffer.proofs.OutLaws.{Midway}
use Rattle.asp_proof.specs.Texts.{natural_field}
use Rattle.asp_scribe.specs.Lists.{differs, set_of}
use Rattle.asp_scribe.proofs.list.put_each_changed.Given as goal

abbrev pub invariant-loop-place : goal.invariant-loop-place
invariant-loop-place g l =
    Midway (out (g.K.Sink.held l.initial.sink) (g.K.Sink.faults l.initial.sink) l.initial.waiting)
    (out (g.K.Sink.held l.sink) (g.K.Sink.faults l.sink) l.waiting)
    (flat_map natural_field (filter (differs (set_of (option_copied l.last)) l.row.set) l.atoms))
    (flat_map natural_field (filter (differs (set_of (option_copied l.last)) l.row.set) (drop l.place l.atoms)))
