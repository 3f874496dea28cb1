use Rattle.asp_buffer.proofs.OutLaws.{puts_then, puts_fails}
use Rattle.asp_print.proofs.text.put_closing.Goals as goal

pub returns-in_err-put_verdict : goal.returns-in_err-put_verdict
returns-in_err-put_verdict g c = puts_fails _ _ _ _ _ _ _ c.in_err-put_verdict.ensures c.from_residual.ensures.1

pub returns : goal.returns
returns g c = puts_then _ _ _ _ _ _ _ c.in_ok-put_verdict.ensures c.put_count.ensures
