use Rattle.std.proofs.Common.{arith, ap}
use Rattle.asp_buffer.proofs.OutLaws.{drop_turn_or, midway_more, midway_fails}
use Rattle.asp_counts.specs.declared.tallies.WorkerCounts.{WorkerCounts}
use Rattle.asp_top.specs.Notes.{workers_text}
use Rattle.asp_top.specs.Progress.{nothing}
use Rattle.asp_top.proofs.notes.put_workers.Goals as goal

abbrev idle : WorkerCounts
idle = record { worker = 0; counts = nothing }

pub returns-in_err-put_worker : goal.returns-in_err-put_worker
returns-in_err-put_worker g c = midway_fails _ _ _ _ _ _ _ _ _ _ c.loop-worker.invariant c.in_err-put_worker.ensures
    (ap workers_text (drop_turn_or c.args.workers.now c.loop-worker.worker-index idle (omega arith))) c.from_residual.ensures.1

pub loop-worker-preserved : goal.loop-worker-preserved
loop-worker-preserved g c = midway_more _ _ _ _ _ _ _ _ c.loop-worker.invariant c.in_ok-put_worker.ensures
    (ap workers_text (drop_turn_or c.args.workers.now c.loop-worker.worker-index idle (omega arith)))
