use Rattle.asp_series.proofs.SeriesLaws.{closing-closed, closing-front, closing-means}
use Rattle.asp_series.proofs.series.close.Goals as goal

pub returns-in-Ok-clause-means : goal.returns-in-Ok-clause-means
returns-in-Ok-clause-means g c =
    closing-means c.args.form c.args.mode c.args.course c.sums_at.result _ _ _ _ c.end_of.result c.sums_at.ensures c.end_of.ensures c.in-Ok.ensures.writes.all c.in-Ok.ensures.writes.quiet

pub returns-in-Ok-clause-closed : goal.returns-in-Ok-clause-closed
returns-in-Ok-clause-closed g c = closing-closed c.args.course.done c.args.course.any c.end_of.result _ c.end_of.ensures

pub returns-in-Err-clause-means : goal.returns-in-Err-clause-means
returns-in-Err-clause-means g c =
    (closing-front c.args.form c.args.mode c.args.course c.sums_at.result _ _ c.sums_at.ensures c.in-Err.ensures.writes.front, c.in-Err.ensures.writes.cause)
