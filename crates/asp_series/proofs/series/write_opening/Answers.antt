use Rattle.asp_series.proofs.SeriesLaws.{nothing-written}
use Rattle.asp_series.proofs.series.write_opening.Goals as goal

pub returns-in-Text : goal.returns-in-Text
returns-in-Text g c = rw c.in-Text.is (nothing-written _ _ _)
