use Rattle.asp_proof.proofs.LineLaws.{cube_whole}
use Rattle.asp_proof.proofs.lines.cube_line.Goals as goal

pub returns-in-Some : goal.returns-in-Some
returns-in-Some c = cube_whole c.args.line.now c.in-Some.cube (rw c.in-Some.is at c.in_ok-cube.ensures)

pub returns-in-None : goal.returns-in-None
returns-in-None c = rw c.in-None.is at c.in_ok-cube.ensures
