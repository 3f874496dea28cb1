use Rattle.std.proofs.Common.{◌∙◌, refl}
use Rattle.std.proofs.Math.Seq.{map-set_same}
use Rattle.asp_counts.specs.declared.tallies.WorkerCounts.{WorkerCounts}
use Rattle.asp_counts.specs.Counting.{nothing}
use Rattle.asp_counts.proofs.tallies.Tallies.into_counts.Goals as goal

pub loop-i-preserved : goal.loop-i-preserved
loop-i-preserved c =
    let none : WorkerCounts = record { worker = 0; counts = nothing } in
    map-set_same (λ (w : WorkerCounts). w.worker) c.loop-i.worker-items c.loop-i.i _ none refl ∙ c.loop-i.invariant
