use Rattle.std.proofs.Common.{◌∙◌, get_or, ap, sym}
use Rattle.asp_counts.specs.declared.tallies.WorkerCounts.{WorkerCounts}
use Rattle.asp_counts.specs.Counting.{joined, nothing}
use Rattle.asp_counts.proofs.Sums.{together_more}
use Rattle.asp_counts.proofs.tallies.sum_of.Goals as goal

pub loop-worker-preserved : goal.loop-worker-preserved
loop-worker-preserved c =
    let none : WorkerCounts = record { worker = 0; counts = nothing } in
    c.add.ensures
    ∙ ap (λ s. joined s (get_or c.args.workers.now c.loop-worker.worker-index none).counts) c.loop-worker.invariant
    ∙ sym (together_more (λ (w : WorkerCounts). w.counts) c.args.workers.now c.loop-worker.worker-index none c.loop-worker-test.true)
