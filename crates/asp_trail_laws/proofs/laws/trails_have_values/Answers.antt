use Rattle.asp_trail_laws.proofs.WholeLaws.{trail_valuation, set_value}
use Rattle.asp_trail_laws.proofs.laws.trails_have_values.Goals as goal

pub returns : goal.returns
returns c = record { valuation = trail_valuation; values = set_value }
