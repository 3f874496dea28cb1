use Rattle.std.proofs.Common.{[], ◌∷◌, false}
use Rattle.asp_print.specs.Shown.{pieces}
use Rattle.asp_buffer.proofs.OutLaws.{puts_then, puts_fails, puts_same}
use Rattle.asp_print.proofs.ShownLaws.{line_shown}
use Rattle.asp_print.proofs.answers.put_set_shown.Goals as goal

pub returns-in_err-put_texts : goal.returns-in_err-put_texts
returns-in_err-put_texts g c =
    puts_same _ _ _ _ _ (puts_fails _ _ _ _ _ (pieces 32 c.args.set.now false c.args.program.now.outputs) (10 ∷ []) c.in_err-put_texts.ensures c.from_residual.ensures.1)
    (line_shown c.args.program.now c.args.set.now)

pub returns : goal.returns
returns g c =
    puts_same _ _ _ _ _ (puts_then _ _ _ _ _ _ _ c.in_ok-put_texts.ensures c.put.ensures)
    (line_shown c.args.program.now c.args.set.now)
