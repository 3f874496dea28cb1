use Rattle.std.proofs.Common.{codes}
use Rattle.asp_proof.specs.Texts.{mode_line}
use Rattle.asp_buffer.proofs.OutLaws.{puts_then, puts_fails}
use Rattle.asp_proof.proofs.write.put_head.Goals as goal

pub returns-in_err-put : goal.returns-in_err-put
returns-in_err-put g c = puts_fails _ _ _ _ _ (codes "proof 3\n") (mode_line c.args.sought) c.in_err-put.ensures c.from_residual.ensures.1

pub returns : goal.returns
returns g c = puts_then _ _ _ _ _ (codes "proof 3\n") (mode_line c.args.sought) c.in_ok-put.ensures (rw c.mode_line.ensures at c.put-2.ensures)
