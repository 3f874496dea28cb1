use Rattle.std.proofs.Common.{drop, flat_map}
use Rattle.asp_buffer.specs.Out.{out}
use Rattle.asp_buffer.proofs.OutLaws.{Midway}
use Rattle.asp_top.specs.Counts.{item_text}
use Rattle.asp_top.proofs.counts.put_items.Given as goal

abbrev pub invariant-loop-item : goal.invariant-loop-item
invariant-loop-item g l =
    Midway (out (g.N.Sink.held l.initial.notes) (g.N.Sink.faults l.initial.notes) l.initial.waiting)
    (out (g.N.Sink.held l.notes) (g.N.Sink.faults l.notes) l.waiting)
    (flat_map item_text l.items) (flat_map item_text (drop l.item-index l.items))
