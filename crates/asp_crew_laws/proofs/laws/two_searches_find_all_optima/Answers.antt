use Rattle.asp_crew_laws.proofs.PlayedLaws.{alone-reports}
use Rattle.asp_crew_laws.proofs.TwiceLaws.{ties-report}
use Rattle.asp_crew_laws.proofs.laws.two_searches_find_all_optima.Goals as goal

pub returns : goal.returns
returns c = record { joined = ties-report; alone = alone-reports }
