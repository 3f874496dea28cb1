use Rattle.asp_core.proofs.GrowthLaws.{Spares-run}
use Rattle.asp_core.proofs.laws.others_spare_a_number.Goals as goal

pub returns : goal.returns
returns c = Spares-run
