use Rattle.std.proofs.Common.{codes, decimal}
use Rattle.asp_buffer.proofs.OutLaws.{puts_fails, puts_then}
use Rattle.asp_json.proofs.entries.put_query_number.Goals as goal

pub returns-in_err-put : goal.returns-in_err-put
returns-in_err-put g c =
    puts_fails _ _ _ _ _ (codes "\n{\"Query\":") (decimal c.args.number) c.in_err-put.ensures c.from_residual.ensures.1

pub returns : goal.returns
returns g c =
    puts_then _ _ _ _ _ (codes "\n{\"Query\":") (decimal c.args.number) c.in_ok-put.ensures c.put_number.ensures
