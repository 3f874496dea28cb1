use Rattle.asp_series.proofs.CoreLaws.{same-once}
use Rattle.asp_series.proofs.literals.put_in_order.Goals as goal

pub returns : goal.returns
returns c = same-once _ _ _ c.sort_unstable_by_key.ensures.permutation c.dedup.ensures.filtered
