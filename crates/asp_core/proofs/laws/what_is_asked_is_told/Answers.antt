use Rattle.asp_core.proofs.AskedLaws.{told-asked}
use Rattle.asp_core.proofs.laws.what_is_asked_is_told.Goals as goal

pub returns : goal.returns
returns c = told-asked
