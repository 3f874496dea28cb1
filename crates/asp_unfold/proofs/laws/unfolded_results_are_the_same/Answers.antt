use Rattle.asp_unfold.proofs.SameLaws.{same-consequences, same-optima, same-optimum}
use Rattle.asp_unfold.proofs.laws.unfolded_results_are_the_same.Goals as goal

pub returns : goal.returns
returns c = record { optima = same-optima; optimum = same-optimum; consequences = same-consequences }
