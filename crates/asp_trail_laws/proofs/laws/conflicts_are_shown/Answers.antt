use Rattle.asp_trail_laws.proofs.ConflictLaws.{conflict}
use Rattle.asp_trail_laws.proofs.laws.conflicts_are_shown.Goals as goal

pub returns : goal.returns
returns c = λ p known bound vars cube decisions es nogood l k o s w high has at settled justified. conflict p vars cube decisions es nogood l k o s w high has at known bound settled justified
