use Rattle.asp_model.proofs.AboveLaws.{raised-betters}
use Rattle.asp_model.proofs.laws.costs_just_above_bound_ties.Goals as goal

pub returns : goal.returns
returns c = raised-betters
