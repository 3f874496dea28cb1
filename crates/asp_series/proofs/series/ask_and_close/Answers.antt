use Rattle.asp_series.proofs.SeriesLaws.{closed-asks, stop-asks, stop-unsent}
use Rattle.asp_series.proofs.series.ask_and_close.Goals as goal

pub returns-in-Ok-clause-asks : goal.returns-in-Ok-clause-asks
returns-in-Ok-clause-asks g c =
    closed-asks c.args.options.now c.args.series.now _ _ _ _ _ _ c.in-Ok.course c.mode_of.result c.close.result c.in-Ok.ensures.asks c.mode_of.ensures c.close.ensures.means
    c.close.ensures.later

pub returns-in-Err-clause-asks : goal.returns-in-Err-clause-asks
returns-in-Err-clause-asks g c = stop-asks c.args.options.now c.args.series.now _ _ _ _ c.in-Err.status c.in-Err.ensures.asks.0

pub returns-in-Err-clause-sent : goal.returns-in-Err-clause-sent
returns-in-Err-clause-sent g c = stop-unsent c.args.options.now c.args.series.now _ _ _ _ _ c.in-Err.status c.in-Err.ensures.asks.0
