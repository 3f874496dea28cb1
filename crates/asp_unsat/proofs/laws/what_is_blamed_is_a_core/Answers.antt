use Rattle.asp_unsat.proofs.CoreLaws.{blamed-core}
use Rattle.asp_unsat.proofs.laws.what_is_blamed_is_a_core.Goals as goal

pub returns : goal.returns
returns c = λ t journal query lawful closed nothing. blamed-core t journal query lawful closed nothing
