use Rattle.std.proofs.Common.{[], ◌∷◌}
use Rattle.asp_proof.specs.Texts.{line_text}
use Rattle.asp_buffer.proofs.OutLaws.{puts_then, puts_fails}
use Rattle.asp_proof.proofs.write.put_line.Goals as goal

pub returns-in_err-put_fields : goal.returns-in_err-put_fields
returns-in_err-put_fields g c = puts_fails _ _ _ _ _ (line_text c.args.entry.now) (10 ∷ []) c.in_err-put_fields.ensures c.from_residual.ensures.1

pub returns : goal.returns
returns g c = puts_then _ _ _ _ _ (line_text c.args.entry.now) (10 ∷ []) c.in_ok-put_fields.ensures c.put.ensures
