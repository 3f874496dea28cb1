use Rattle.std.proofs.Common.{sym}
use Rattle.asp_bound.proofs.CostLaws.{optimistic_at-set_le}
use Rattle.asp_bound.proofs.laws.sets_cost_no_less.Goals as goal

pub returns : goal.returns
returns c = λ p a S q h. optimistic_at-set_le p a S q (λ v b i k e. sym (h v b i k e))
