use Rattle.std.proofs.Common.{append_assoc, codes, sym, ◌++◌}
use Rattle.asp_buffer.proofs.OutLaws.{puts_fails, puts_same, puts_then}
use Rattle.asp_json.specs.Json.{proven, reasoning_key}
use Rattle.asp_json.proofs.text.put_reasoning.Goals as goal

pub returns-in_err-put : goal.returns-in_err-put
returns-in_err-put g c =
    puts_same _ _ _ _ _ (puts_fails _ _ _ _ _ (reasoning_key c.args.reasoning) (proven c.args.end ++ codes "\"") (rw c.reasoning_key.ensures at c.in_err-put.ensures) c.from_residual.ensures.1)
    (sym (append_assoc (reasoning_key c.args.reasoning) (proven c.args.end) (codes "\"")))

pub returns-in_err-put-2 : goal.returns-in_err-put-2
returns-in_err-put-2 g c =
    puts_fails _ _ _ _ _ (reasoning_key c.args.reasoning ++ proven c.args.end)
    (codes
    "\"") (puts_then _ _ _ _ _ (reasoning_key c.args.reasoning) (proven c.args.end) (rw c.reasoning_key.ensures at c.in_ok-put.ensures)
    (rw c.proven.ensures at c.in_err-put-2.ensures)) c.from_residual-in_err-put-2.ensures.1

pub returns : goal.returns
returns g c =
    puts_then _ _ _ _ _ (reasoning_key c.args.reasoning ++ proven c.args.end)
    (codes
    "\"") (puts_then _ _ _ _ _ (reasoning_key c.args.reasoning) (proven c.args.end) (rw c.reasoning_key.ensures at c.in_ok-put.ensures)
    (rw c.proven.ensures at c.in_ok-put-2.ensures)) (c.put-3.ensures)
