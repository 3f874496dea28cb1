use Rattle.asp_bound.proofs.NogoodLaws.{excludes_below}
use Rattle.asp_bound.proofs.laws.exclusion_is_below.Goals as goal

pub returns : goal.returns
returns c = excludes_below
