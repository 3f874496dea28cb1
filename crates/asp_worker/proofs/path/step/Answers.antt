use Rattle.asp_worker.specs.Working.{Pays}
use Rattle.asp_worker.proofs.Replies.{always-err}
use Rattle.asp_worker.proofs.StepLaws.{failure-pays, step-pays}
use Rattle.asp_worker.proofs.path.step.Goals as goal

pub returns-in_err-step-clause-err : goal.returns-in_err-step-clause-err
returns-in_err-step-clause-err g c =
    always-err c.from_residual.result (Pays c.args.search.now c.args.fuel.now c.step.new.fuel)
    (failure-pays _ c.args.search.now c.step.new.self c.args.fuel.now c.step.new.fuel c.in_err-step.ensures.err)

pub returns-in_err-note-clause-err : goal.returns-in_err-note-clause-err
returns-in_err-note-clause-err g c =
    always-err c.from_residual-in_err-note.result (Pays c.args.search.now c.args.fuel.now c.step.new.fuel)
    (step-pays _ _ c.args.search.now c.step.new.self c.args.fuel.now c.step.new.fuel _ c.in_ok-step.ensures.ok)
