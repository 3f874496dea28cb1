use Rattle.std.proofs.Common.{◌≡◌, take}
use Rattle.asp_counts.specs.Counting.{together}
use Rattle.asp_counts.proofs.tallies.sum_of.Given as goal

abbrev pub invariant-loop-worker : goal.invariant-loop-worker
invariant-loop-worker l = l.sum ≡ together (λ w. w.counts) (take l.worker-index l.workers)
