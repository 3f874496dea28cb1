use Rattle.std.proofs.Common.{refl}
use Rattle.asp_series.proofs.SeriesLaws.{asks-flushed, asks-on, unopened}
use Rattle.asp_series.proofs.series.ask_all.Goals as goal

pub returns-in-Ok-clause-asks : goal.returns-in-Ok-clause-asks
returns-in-Ok-clause-asks g c =
    asks-on c.args.options.now c.args.series.now _ _ _ _ _ _ c.ask_and_close.result c.in-Ok.ensures.all c.in-Ok.ensures.quiet c.ask_and_close.ensures.asks

pub returns-in-Ok-clause-flushed : goal.returns-in-Ok-clause-flushed
returns-in-Ok-clause-flushed g c =
    asks-flushed c.args.options.now c.args.series.now _ _ _ _ _ c.ask_and_close.result c.in-Ok.ensures.quiet c.ask_and_close.ensures.asks

pub returns-in-Err-clause-asks : goal.returns-in-Err-clause-asks
returns-in-Err-clause-asks g c = unopened c.args.options.now c.args.series.now _ _ _ _ _ c.in-Err.ensures.front c.in-Err.ensures.cause c.in-Err.ensures.later

pub returns-in-Err-clause-flushed : goal.returns-in-Err-clause-flushed
returns-in-Err-clause-flushed g c = λ kept. absurd (kept (_, refl))

pub returns-in-Err-clause-heard : goal.returns-in-Err-clause-heard
returns-in-Err-clause-heard g c = g.met.W.Watch.begins c.args.watch.now
