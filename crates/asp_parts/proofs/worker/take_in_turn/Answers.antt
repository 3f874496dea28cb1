use Rattle.std.proofs.Common.{subst, sym}
use Rattle.asp_model.specs.declared.program.Program.{Program}
use Rattle.asp_parts.specs.Parts.{AreParts}
use Rattle.asp_parts.specs.Rounds.{HasDone}
use Rattle.asp_parts.proofs.RoundLaws.{own-done}
use Rattle.asp_parts.proofs.worker.take_in_turn.Goals as goal

pub take-requires-clause-parts : goal.take-requires-clause-parts
take-requires-clause-parts c = subst (λ (q : Program). AreParts q c.args.parts.now) (sym c.loop.invariant.worker.program) c.requires.parts

pub take-requires-clause-worker : goal.take-requires-clause-worker
take-requires-clause-worker c = own-done c.args.worker.now.bench.compiled.now c.args.parts.now c.loop.worker c.loop.invariant

pub returns-in_err-take : goal.returns-in_err-take
returns-in_err-take c = subst (λ (q : Program). HasDone q c.args.parts.now c.take.new.worker) c.loop.invariant.worker.program c.take.ensures

pub loop-preserved : goal.loop-preserved
loop-preserved c = subst (λ (q : Program). HasDone q c.args.parts.now c.take.new.worker) c.loop.invariant.worker.program c.take.ensures
