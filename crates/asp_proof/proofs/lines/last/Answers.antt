use Rattle.asp_proof.proofs.CutLaws.{last_or_not}
use Rattle.asp_proof.proofs.StreamLaws.{no_last}
use Rattle.asp_proof.proofs.lines.last.Goals as goal

pub returns : goal.returns
returns c = no_last c.args.line.now
    (rw c.if-eq.false at (last_or_not c.eq.result c.args.line.now c.as_slice.result.now _ c.eq.ensures c.as_slice.ensures))
    (rw c.if-eq-2.false at (last_or_not c.eq-2.result c.args.line.now c.as_slice-2.result.now _ c.eq-2.ensures c.as_slice-2.ensures))
