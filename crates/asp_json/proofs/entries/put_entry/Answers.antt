use Rattle.asp_buffer.proofs.OutLaws.{puts_fails, puts_then}
use Rattle.asp_json.proofs.entries.put_entry.Goals as goal

pub returns-in_err-put_entry_results : goal.returns-in_err-put_entry_results
returns-in_err-put_entry_results g c = puts_fails _ _ _ _ _ _ _ c.in_err-put_entry_results.ensures c.from_residual.ensures.1

pub returns : goal.returns
returns g c = puts_then _ _ _ _ _ _ _ c.in_ok-put_entry_results.ensures c.put_entry_end.ensures
