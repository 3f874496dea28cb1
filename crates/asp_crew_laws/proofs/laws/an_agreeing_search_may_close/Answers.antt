use Rattle.asp_crew_laws.proofs.AgreeLaws.{settled-excused}
use Rattle.asp_crew_laws.proofs.FuelLaws.{pigeons}
use Rattle.asp_crew_laws.proofs.laws.an_agreeing_search_may_close.Goals as goal

pub returns : goal.returns
returns c = record { settled = settled-excused; known = pigeons }
