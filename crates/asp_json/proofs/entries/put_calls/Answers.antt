use Rattle.std.proofs.Common.{codes, decimal, ◌++◌}
use Rattle.asp_buffer.proofs.OutLaws.{puts_fails, puts_then}
use Rattle.asp_json.proofs.entries.put_calls.Goals as goal

pub returns-in_err-put : goal.returns-in_err-put
returns-in_err-put g c =
    puts_fails _ _ _ _ _ (codes "},\"Calls\":") (decimal c.args.calls ++ codes "}\n") c.in_err-put.ensures c.from_residual.ensures.1

pub returns-in_err-put_number : goal.returns-in_err-put_number
returns-in_err-put_number g c =
    puts_fails _ _ _ _ _ (codes "},\"Calls\":" ++ decimal c.args.calls) (codes "}\n")
    (puts_then _ _ _ _ _ (codes "},\"Calls\":") (decimal c.args.calls) c.in_ok-put.ensures c.in_err-put_number.ensures) c.from_residual-in_err-put_number.ensures.1

pub returns : goal.returns
returns g c =
    puts_then _ _ _ _ _ (codes "},\"Calls\":" ++ decimal c.args.calls) (codes "}\n")
    (puts_then _ _ _ _ _ (codes "},\"Calls\":") (decimal c.args.calls) c.in_ok-put.ensures c.in_ok-put_number.ensures) c.put-2.ensures
