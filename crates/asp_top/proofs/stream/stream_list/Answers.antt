use Rattle.std.proofs.Common.{◌∙◌, ap, map}
use Rattle.asp_counts.specs.declared.tallies.WorkerCounts.{WorkerCounts}
use Rattle.asp_top.proofs.EndLaws.{counted-stream}
use Rattle.asp_top.proofs.stream.stream_list.Goals as goal

pub returns-clause-counted : goal.returns-clause-counted
returns-clause-counted g c =
    counted-stream c.args.compiled.now c.args.mode c.args.options.now.budget c.args.options.now.models _ _ _ _ c.stream_one-outcome.result c.of.result
    c.of.ensures.atoms c.of.ensures.bodies (rw c.of.ensures.loops c.loops-loops.ensures) (ap (map (λ (w : WorkerCounts). w.worker)) (c.of.ensures.workers ∙ c.new.ensures.items))
    c.stream_one-outcome.ensures.streams
