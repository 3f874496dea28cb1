use Rattle.asp_core.proofs.BoardLaws.{wanted-stand}
use Rattle.asp_core.proofs.CubeLaws.{cube-at, answer-in_cube}
use Rattle.asp_core.proofs.laws.cubes_hold_answers.Goals as goal

pub returns : goal.returns
returns c = record {
  cube = λ b node is lt. cube-at b.task b.nodes node lt is.cubes;
  answer = λ b node S is query lt. answer-in_cube b.task _ S (wanted-stand b.task query) (cube-at b.task b.nodes node lt is.cubes);
}
