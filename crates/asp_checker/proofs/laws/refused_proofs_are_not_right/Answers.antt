use Rattle.asp_checker.proofs.WrongLaws.{refused-not_right}
use Rattle.asp_checker.proofs.laws.refused_proofs_are_not_right.Goals as goal

pub returns : goal.returns
returns c = refused-not_right
