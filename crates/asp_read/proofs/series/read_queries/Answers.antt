use Rattle.std.proofs.lemmas.Result.{err_from_is_err_and}
use Rattle.asp_read.specs.Judging.{most_bytes}
use Rattle.asp_read.specs.Queries.{asking}
use Rattle.asp_read.proofs.SeriesLaws.{sound_series}
use Rattle.asp_read.proofs.Supply.{stops_unread}
use Rattle.asp_read.proofs.series.read_queries.Goals as goal

pub returns-clause-sound : goal.returns-clause-sound
returns-clause-sound g c = sound_series c.read_by.result c.read_by.ensures.some_text

pub returns-in_err-asker-clause-stops : goal.returns-in_err-asker-clause-stops
returns-in_err-asker-clause-stops g c =
    let p = err_from_is_err_and c.from_residual.result c.from_residual.ensures.1 in
    rw (p.1, p.2) (stops_unread asking most_bytes (g.S.Source.left c.args.source.now))
