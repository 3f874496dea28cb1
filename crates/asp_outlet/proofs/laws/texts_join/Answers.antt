use Rattle.asp_outlet.proofs.OutletLaws.{front_is_written, optima_join, whole_joins}
use Rattle.asp_outlet.proofs.laws.texts_join.Goals as goal

pub returns : goal.returns
returns c = record { whole = whole_joins; optima = optima_join; front = front_is_written }
