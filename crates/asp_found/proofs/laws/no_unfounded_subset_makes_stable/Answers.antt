use Rattle.asp_found.proofs.CheckLaws.{no_unfounded_stable}
use Rattle.asp_found.proofs.laws.no_unfounded_subset_makes_stable.Goals as goal

pub returns : goal.returns
returns c = no_unfounded_stable
