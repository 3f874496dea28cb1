use Rattle.std.proofs.Common.{drop}
use Rattle.asp_buffer.specs.Out.{out}
use Rattle.asp_buffer.proofs.OutLaws.{Midway}
use Rattle.asp_top.specs.Notes.{workers_text}
use Rattle.asp_top.proofs.notes.put_workers.Given as goal

abbrev pub invariant-loop-worker : goal.invariant-loop-worker
invariant-loop-worker g l =
    Midway (out (g.N.Sink.held l.initial.notes) (g.N.Sink.faults l.initial.notes) l.initial.waiting)
    (out (g.N.Sink.held l.notes) (g.N.Sink.faults l.notes) l.waiting)
    (workers_text l.workers) (workers_text (drop l.worker-index l.workers))
