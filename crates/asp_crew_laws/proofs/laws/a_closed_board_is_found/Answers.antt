use Rattle.asp_crew_laws.proofs.FoundLaws.{found}
use Rattle.asp_crew_laws.proofs.laws.a_closed_board_is_found.Goals as goal

pub returns : goal.returns
returns c = found
