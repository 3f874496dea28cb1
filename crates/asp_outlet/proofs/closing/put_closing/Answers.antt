use Rattle.asp_buffer.proofs.OutLaws.{puts_then, puts_fails}
use Rattle.asp_outlet.proofs.closing.put_closing.Goals as goal

pub returns-in_err-put_cost : goal.returns-in_err-put_cost
returns-in_err-put_cost g c = puts_fails _ _ _ _ _ _ _ c.in_err-put_cost.ensures c.from_residual.ensures.1

pub returns : goal.returns
returns g c = puts_then _ _ _ _ _ _ _ c.in_ok-put_cost.ensures c.put_end.ensures
