use Rattle.asp_buffer.proofs.OutLaws.{puts_then, puts_fails}
use Rattle.asp_print.proofs.query.put_query.Goals as goal

pub returns-in_err-put_headed : goal.returns-in_err-put_headed
returns-in_err-put_headed g c = puts_fails _ _ _ _ _ _ _ c.in_err-put_headed.ensures c.from_residual.ensures.1

pub returns : goal.returns
returns g c = puts_then _ _ _ _ _ _ _ c.in_ok-put_headed.ensures c.put_core.ensures
