use Rattle.asp_crew_laws.proofs.PlayedLaws.{finished-found, played-part, paid-known}
use Rattle.asp_crew_laws.proofs.laws.a_journal_explains_its_report.Goals as goal

pub returns : goal.returns
returns c = record { found = finished-found; part = played-part; known = paid-known }
