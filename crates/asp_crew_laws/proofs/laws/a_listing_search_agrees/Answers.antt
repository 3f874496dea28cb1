use Rattle.asp_crew_laws.proofs.AgreeLaws.{agrees-adopted, agrees-delivered, agrees-grows, agrees-told}
use Rattle.asp_crew_laws.proofs.laws.a_listing_search_agrees.Goals as goal

pub returns : goal.returns
returns c = record { others = agrees-grows; delivered = agrees-delivered; told = agrees-told; adopted = agrees-adopted }
