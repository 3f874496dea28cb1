use Rattle.asp_crew_laws.proofs.FuelLaws.{agrees-improved, agrees-unimproved, bound-later}
use Rattle.asp_crew_laws.proofs.laws.an_optimising_search_agrees.Goals as goal

pub returns : goal.returns
returns c = record { improved = agrees-improved; unimproved = agrees-unimproved; bound = bound-later }
