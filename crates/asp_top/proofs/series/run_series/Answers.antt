use Rattle.asp_read.specs.declared.fault.ReadError.TheVariants as errors
use Rattle.asp_top.proofs.SeriesLaws.{ok-no-fault, runs-asked, runs-unread, series-closed, series-flushed, series-sent, unread-closed, unread-sent}
use Rattle.asp_top.proofs.series.run_series.Goals as goal

pub returns-in-Ok-clause-runs : goal.returns-in-Ok-clause-runs
returns-in-Ok-clause-runs g c =
    let read = c.in-Ok.ensures in
    runs-asked c.args.options.now _ _ _ _ _ _ _ _ c.in-Ok.series c.ask_all-end.result c.status_at.result c.failed.result c.status_at.ensures
    c.failed.ensures read.text read.some_text read.end read.sound read.later (read.quiet (ok-no-fault c.in-Ok.series errors.ReadFault))
    c.ask_all-end.ensures.asks

pub returns-in-Ok-clause-flushed : goal.returns-in-Ok-clause-flushed
returns-in-Ok-clause-flushed g c = series-flushed _ _ c.ask_all-end.result c.status_at.result c.failed.result c.status_at.ensures c.failed.ensures c.ask_all-end.ensures.flushed

pub returns-in-Ok-clause-sent : goal.returns-in-Ok-clause-sent
returns-in-Ok-clause-sent g c = series-sent _ c.ask_all-end.result c.status_at.result c.failed.result c.status_at.ensures c.failed.ensures c.ask_all-end.ensures.sent

pub returns-in-Ok-clause-closed : goal.returns-in-Ok-clause-closed
returns-in-Ok-clause-closed g c = series-closed _ c.ask_all-end.result c.status_at.result c.failed.result c.status_at.ensures c.failed.ensures c.ask_all-end.ensures.closed

pub returns-in-Err-clause-runs : goal.returns-in-Err-clause-runs
returns-in-Err-clause-runs g c =
    let read = c.in-Err.ensures in
    runs-unread c.args.options.now _ _ _ _ _ _ c.in-Err.error c.status_of.result c.failed-in-Err.result c.failed-in-Err.ensures c.status_of.ensures
    read.text read.some_text read.later read.cause read.stops read.quiet

pub returns-in-Err-clause-sent : goal.returns-in-Err-clause-sent
returns-in-Err-clause-sent g c = unread-sent c.in-Err.error c.status_of.result c.failed-in-Err.result _ c.failed-in-Err.ensures c.status_of.ensures

pub returns-in-Err-clause-closed : goal.returns-in-Err-clause-closed
returns-in-Err-clause-closed g c = unread-closed c.in-Err.error c.status_of.result c.failed-in-Err.result _ c.failed-in-Err.ensures c.status_of.ensures
