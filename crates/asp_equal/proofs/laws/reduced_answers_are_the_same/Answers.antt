use Rattle.asp_equal.proofs.AgainLaws.{shown-again}
use Rattle.asp_equal.proofs.ReducedLaws.{cost-reduced, same-answers, shown-reduced, sound-reduced}
use Rattle.asp_equal.proofs.laws.reduced_answers_are_the_same.Goals as goal

pub returns : goal.returns
returns c = record { answers = same-answers; shown = shown-reduced; again = shown-again; costs = cost-reduced; sound = sound-reduced }
