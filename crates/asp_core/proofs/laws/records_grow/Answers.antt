use Rattle.asp_core.proofs.GrowthLaws.{Grows-run}
use Rattle.asp_core.proofs.laws.records_grow.Goals as goal

pub returns : goal.returns
returns c = Grows-run
