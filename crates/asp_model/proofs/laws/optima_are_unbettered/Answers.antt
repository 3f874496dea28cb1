use Rattle.asp_model.specs.Orders.{costs_total}
use Rattle.asp_model.proofs.CostLaws.{length-cost}
use Rattle.asp_model.proofs.ModelLaws.{optima-are}
use Rattle.asp_model.proofs.laws.optima_are_unbettered.Goals as goal

pub returns : goal.returns
returns c = record { exact = optima-are; total = costs_total; length = length-cost }
