use Rattle.asp_top.proofs.ProveLaws.{stopped-fault, stopped-memory}
use Rattle.asp_top.proofs.prove.cut_short.Goals as goal

pub returns-in-Ok-clause-stopped : goal.returns-in-Ok-clause-stopped
returns-in-Ok-clause-stopped g c = λ s start none begun. stopped-memory s start _ _ _ c.failed.result none begun c.in-Ok.is c.failed.ensures

pub returns-in-Err-clause-stopped : goal.returns-in-Err-clause-stopped
returns-in-Err-clause-stopped g c = λ s start none begun. stopped-fault s start _ _ _ c.is_closed.result c.failed-in-Err.result none begun c.in-Err.is c.failed-in-Err.ensures
