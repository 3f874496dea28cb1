use Rattle.asp_buffer.proofs.OutLaws.{puts_then, puts_fails}
use Rattle.asp_print.specs.Shown.{separator}
use Rattle.asp_print.proofs.answers.put_text.Goals as goal

pub returns-in_err-put : goal.returns-in_err-put
returns-in_err-put g c = puts_fails _ _ _ _ _ (separator 32 c.args.behind_another) c.args.text.now (rw c.separator.ensures at c.in_err-put.ensures) c.from_residual.ensures.1

pub returns : goal.returns
returns g c = puts_then _ _ _ _ _ (separator 32 c.args.behind_another) c.args.text.now (rw c.separator.ensures at c.in_ok-put.ensures) c.put-2.ensures
