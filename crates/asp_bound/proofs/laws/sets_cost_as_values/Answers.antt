use Rattle.asp_bound.proofs.CostLaws.{cost_of-values}
use Rattle.asp_bound.proofs.laws.sets_cost_as_values.Goals as goal

pub returns : goal.returns
returns c = cost_of-values
