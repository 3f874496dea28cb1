use Rattle.asp_settle.proofs.SettledLaws.{cost-left, same-answers, shown-left}
use Rattle.asp_settle.proofs.laws.settled_answers_are_the_same.Goals as goal

pub returns : goal.returns
returns c = record { answers = same-answers; shown = shown-left; costs = cost-left }
