use Rattle.asp_buffer.proofs.OutLaws.{puts_fails, puts_then}
use Rattle.asp_json.proofs.entries.put_entry_end.Goals as goal

pub returns-in_err-put_core : goal.returns-in_err-put_core
returns-in_err-put_core g c = puts_fails _ _ _ _ _ _ _ c.in_err-put_core.ensures c.from_residual.ensures.1

pub returns : goal.returns
returns g c = puts_then _ _ _ _ _ _ _ c.in_ok-put_core.ensures c.put.ensures
