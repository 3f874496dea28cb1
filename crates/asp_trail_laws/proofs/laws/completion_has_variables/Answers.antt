use Rattle.asp_trail_laws.proofs.VarLaws.{completion_are_vars}
use Rattle.asp_trail_laws.proofs.laws.completion_has_variables.Goals as goal

pub returns : goal.returns
returns c = completion_are_vars
