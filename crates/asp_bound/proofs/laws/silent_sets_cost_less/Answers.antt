use Rattle.asp_bound.proofs.SilentLaws.{silent_costs_less}
use Rattle.asp_bound.proofs.laws.silent_sets_cost_less.Goals as goal

pub returns : goal.returns
returns c = silent_costs_less
