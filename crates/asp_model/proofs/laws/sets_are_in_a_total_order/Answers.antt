use Rattle.asp_model.specs.Orders.{sets_total}
use Rattle.asp_model.proofs.OrderLaws.{one_of_three, not_both}
use Rattle.asp_model.proofs.laws.sets_are_in_a_total_order.Goals as goal

pub returns : goal.returns
returns c = record { total = sets_total; one_of_three = one_of_three; not_both = not_both }
