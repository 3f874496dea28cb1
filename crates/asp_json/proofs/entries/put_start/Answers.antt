use Rattle.std.proofs.Common.{codes, decimal, nat_lt, ◌++◌}
use Rattle.asp_buffer.proofs.OutLaws.{puts_fails, puts_then}
use Rattle.asp_print.specs.Shown.{separator}
use Rattle.asp_json.proofs.entries.put_start.Goals as goal

pub returns-in_err-put_comma : goal.returns-in_err-put_comma
returns-in_err-put_comma g c =
    puts_fails _ _ _ _ _ (separator 44 (nat_lt 1 c.args.number)) (codes "\n{\"Query\":" ++ decimal c.args.number) c.in_err-put_comma.ensures c.from_residual.ensures.1

pub returns : goal.returns
returns g c =
    puts_then _ _ _ _ _ (separator 44 (nat_lt 1 c.args.number)) (codes "\n{\"Query\":" ++ decimal c.args.number) c.in_ok-put_comma.ensures c.put_query_number.ensures
