use Rattle.std.proofs.Common.{[], ◌∷◌, decimal}
use Rattle.asp_buffer.proofs.OutLaws.{puts_then, puts_fails}
use Rattle.asp_print.proofs.text.put_atom.Goals as goal

pub returns-in_err-put : goal.returns-in_err-put
returns-in_err-put g c = puts_fails _ _ _ _ _ (32 ∷ []) (decimal c.args.atom.now) c.in_err-put.ensures c.from_residual.ensures.1

pub returns : goal.returns
returns g c = puts_then _ _ _ _ _ (32 ∷ []) (decimal c.args.atom.now) c.in_ok-put.ensures c.put_number.ensures
