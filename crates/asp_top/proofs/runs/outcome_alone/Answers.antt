use Rattle.asp_top.proofs.RunLaws.{nothing-closed, nothing-to-send, runs-done}
use Rattle.asp_top.proofs.TellLaws.{heard_nothing, heard_of}
use Rattle.asp_top.proofs.runs.outcome_alone.Goals as goal

pub returns-in-Ok-clause-runs : goal.returns-in-Ok-clause-runs
returns-in-Ok-clause-runs g c = runs-done c.args.options.now _ _ _ _ _ _ _ _ c.in-Ok.ensures.0 _ c.in-Ok.ensures.1 c.in-Ok.ensures.2
    (c.announced-done.ensures.does c.in-Ok.ensures.0 c.in-Ok.ensures.3)

pub returns-in-Err-clause-runs : goal.returns-in-Err-clause-runs
returns-in-Err-clause-runs g c = rw c.failed.ensures (c.in-Err.ensures _ _)

pub returns-in-Err-clause-sent : goal.returns-in-Err-clause-sent
returns-in-Err-clause-sent g c = nothing-to-send c.args.options.now _ _ _ _ _ c.failed.result _ c.in-Err.ensures c.failed.ensures

pub returns-in-Err-clause-closed : goal.returns-in-Err-clause-closed
returns-in-Err-clause-closed g c = nothing-closed c.args.options.now _ _ _ _ _ c.failed.result _ c.in-Err.ensures c.failed.ensures

pub returns-in-Ok-clause-heard : goal.returns-in-Ok-clause-heard
returns-in-Ok-clause-heard g c = heard_of c.args.options.now _ _ _ _ _ _ _ _ c.in-Ok.ensures.0 c.in-Ok.prepared _ _ _ _ c.in-Ok.ensures.1 c.in-Ok.ensures.2 c.in-Ok.ensures.3
    (rw c.weigh.ensures at c.announced-done.ensures.told)

pub returns-in-Err-clause-heard : goal.returns-in-Err-clause-heard
returns-in-Err-clause-heard g c = heard_nothing c.args.options.now _ _ _ _
