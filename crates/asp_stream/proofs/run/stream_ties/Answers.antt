use Rattle.std.proofs.Common.{sym, ap, ◌∙◌}
use Rattle.std.proofs.lemmas.Result.{IfOk-weaker}
use Rattle.asp_model.specs.declared.program.Program.{Program}
use Rattle.asp_model.specs.Costs.{cost, just_above}
use Rattle.asp_core.specs.declared.task.Task.{Task}
use Rattle.asp_stream.proofs.EndLaws.{may-tie, telling-by}
use Rattle.asp_stream.proofs.RunLaws.{front-by, nothing-heard, stream-by}
use Rattle.asp_stream.proofs.TieLaws.{tied-goal}
use Rattle.asp_stream.proofs.run.stream_ties.Goals as goal

pub begun-requires-clause-bound : goal.begun-requires-clause-bound
begun-requires-clause-bound g c = c.in_ok-bound.ensures ∙ ap (λ (p : Program). just_above (cost p c.args.best.now)) c.program.ensures.program

pub stream_by-requires-clause-budget : goal.stream_by-requires-clause-budget
stream_by-requires-clause-budget g c = ap (λ (t : Task). t.budget) c.in_ok-stream.ensures.task

pub stream_by-requires-clause-goal : goal.stream_by-requires-clause-goal
stream_by-requires-clause-goal g c =
    may-tie c.in_ok-stream.stream.ledger.task.goal c.in_ok-bound.bound
    (tied-goal c.args.compiled.now (cost c.args.compiled.now c.args.best.now) c.in_ok-bound.bound c.args.budget c.in_ok-stream.stream.ledger.task c.in_ok-stream.ensures.task
    (c.in_ok-bound.ensures ∙ ap (λ (p : Program). just_above (cost p c.args.best.now)) c.program.ensures.program))

pub stream_by-requires-clause-stream : goal.stream_by-requires-clause-stream
stream_by-requires-clause-stream g c = stream-by c.in_ok-stream.stream _ _ _ c.requires.all c.requires.none c.in_ok-stream.ensures.stream

pub stream_by-requires-clause-reader : goal.stream_by-requires-clause-reader
stream_by-requires-clause-reader g c = c.requires.program ∙ sym c.in_ok-stream.ensures.compiled

pub returns-clause-told : goal.returns-clause-told
returns-clause-told g c =
    IfOk-weaker c.stream_by.result _ _ (λ r tells. telling-by _ _ _ _ r c.in_ok-stream.ensures.task tells) c.stream_by.ensures.told

pub returns-clause-some : goal.returns-clause-some
returns-clause-some g c = IfOk-weaker c.stream_by.result _ _ (λ r some. some c.in_ok-stream.ensures.some) c.stream_by.ensures.some

pub returns-clause-front : goal.returns-clause-front
returns-clause-front g c = front-by _ _ _ _ _ _ c.in_ok-stream.ensures.compiled c.stream_by.ensures.front

pub returns-in_err-bound-clause-front : goal.returns-in_err-bound-clause-front
returns-in_err-bound-clause-front g c = nothing-heard c.args.compiled.now _ _ _ c.requires.program c.requires.none

pub returns-in_err-bound-clause-after : goal.returns-in_err-bound-clause-after
returns-in_err-bound-clause-after g c = g.met.R.Reader.begins c.args.reader.now

pub returns-in_err-bound-clause-heard : goal.returns-in_err-bound-clause-heard
returns-in_err-bound-clause-heard g c = g.met.W.Watch.begins c.args.watch.now

pub returns-in_err-stream-clause-front : goal.returns-in_err-stream-clause-front
returns-in_err-stream-clause-front g c = nothing-heard c.args.compiled.now _ _ _ c.requires.program c.requires.none

pub returns-in_err-stream-clause-after : goal.returns-in_err-stream-clause-after
returns-in_err-stream-clause-after g c = g.met.R.Reader.begins c.args.reader.now

pub returns-in_err-stream-clause-heard : goal.returns-in_err-stream-clause-heard
returns-in_err-stream-clause-heard g c = g.met.W.Watch.begins c.args.watch.now

pub returns-in_err-propagator-clause-front : goal.returns-in_err-propagator-clause-front
returns-in_err-propagator-clause-front g c = nothing-heard c.args.compiled.now _ _ _ c.requires.program c.requires.none

pub returns-in_err-propagator-clause-after : goal.returns-in_err-propagator-clause-after
returns-in_err-propagator-clause-after g c = g.met.R.Reader.begins c.args.reader.now

pub returns-in_err-propagator-clause-heard : goal.returns-in_err-propagator-clause-heard
returns-in_err-propagator-clause-heard g c = g.met.W.Watch.begins c.args.watch.now
