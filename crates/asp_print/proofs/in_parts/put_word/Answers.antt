use Rattle.std.proofs.Common.{[], ◌∷◌}
use Rattle.asp_model.specs.Texts.{verdict}
use Rattle.asp_buffer.proofs.OutLaws.{puts_then, puts_fails}
use Rattle.asp_print.proofs.in_parts.put_word.Goals as goal

pub returns-in_err-put : goal.returns-in_err-put
returns-in_err-put g c = puts_fails _ _ _ _ _ (verdict c.args.end c.args.mode c.args.count) (10 ∷ []) (rw c.verdict.ensures at c.in_err-put.ensures) c.from_residual.ensures.1

pub returns : goal.returns
returns g c = puts_then _ _ _ _ _ (verdict c.args.end c.args.mode c.args.count) (10 ∷ []) (rw c.verdict.ensures at c.in_ok-put.ensures) c.put-2.ensures
