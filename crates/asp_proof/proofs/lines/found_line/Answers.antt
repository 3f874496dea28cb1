use Rattle.asp_proof.proofs.LineLaws.{found_whole}
use Rattle.asp_proof.proofs.lines.found_line.Goals as goal

pub returns-in-Some : goal.returns-in-Some
returns-in-Some c = found_whole c.args.line.now c.in-Some.change (rw c.in-Some.is at c.in_ok-change.ensures)

pub returns-in-None : goal.returns-in-None
returns-in-None c = rw c.in-None.is at c.in_ok-change.ensures
