use Rattle.asp_split.proofs.BestLaws.{best_of_bests}
use Rattle.asp_split.proofs.laws.a_best_of_the_bests_is_best.Goals as goal

pub returns : goal.returns
returns c = record { best = best_of_bests }
