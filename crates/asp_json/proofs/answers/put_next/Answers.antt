use Rattle.asp_buffer.proofs.OutLaws.{puts_fails, puts_then}
use Rattle.asp_print.specs.Shown.{separator}
use Rattle.asp_json.specs.Json.{witness}
use Rattle.asp_json.proofs.answers.put_next.Goals as goal

pub returns-in_err-put_comma : goal.returns-in_err-put_comma
returns-in_err-put_comma g c = puts_fails _ _ _ _ _ (separator 44 c.args.any) (witness c.args.program.now c.args.best.now c.args.row.now.set) (c.in_err-put_comma.ensures) c.from_residual.ensures.1

pub returns : goal.returns
returns g c = puts_then _ _ _ _ _ (separator 44 c.args.any) (witness c.args.program.now c.args.best.now c.args.row.now.set) (c.in_ok-put_comma.ensures) (c.put_answer.ensures)
