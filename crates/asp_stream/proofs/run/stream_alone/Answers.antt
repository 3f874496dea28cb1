use Rattle.std.proofs.Common.{refl, sym, ap, ◌∙◌}
use Rattle.std.proofs.lemmas.Result.{IfOk-weaker}
use Rattle.asp_core.specs.declared.goal.Goal.TheVariants as goals
use Rattle.asp_book.specs.Books.{Booked}
use Rattle.asp_stream.proofs.EndLaws.{may-enumerate, telling-all, telling-by}
use Rattle.asp_stream.proofs.RunLaws.{front-by, nothing-heard, start-begun, stream-by}
use Rattle.asp_stream.proofs.StreamLaws.{answers-listed}
use Rattle.asp_stream.proofs.run.stream_alone.Goals as goal

pub start-requires : goal.start-requires
start-requires g c = record { apart = refl; plain = refl }

pub stream_by-requires-clause-begun : goal.stream_by-requires-clause-begun
stream_by-requires-clause-begun g c = start-begun c.args.compiled.now goals.Enum c.args.budget c.in_ok-stream.stream.ledger c.in_ok-stream.ensures.ledger

pub stream_by-requires-clause-budget : goal.stream_by-requires-clause-budget
stream_by-requires-clause-budget g c = ap (λ (v : Booked). v.task.budget) c.in_ok-stream.ensures.ledger

pub stream_by-requires-clause-goal : goal.stream_by-requires-clause-goal
stream_by-requires-clause-goal g c = may-enumerate c.in_ok-stream.stream.ledger.task.goal (ap (λ (v : Booked). v.task.goal) c.in_ok-stream.ensures.ledger)

pub stream_by-requires-clause-stream : goal.stream_by-requires-clause-stream
stream_by-requires-clause-stream g c =
    stream-by c.in_ok-stream.stream _ _ _ (c.requires.all ∙ sym (answers-listed c.args.compiled.now c.args.budget)) c.requires.none c.in_ok-stream.ensures.stream

pub returns-clause-told : goal.returns-clause-told
returns-clause-told g c =
    IfOk-weaker c.stream_by.result _ _
    (λ r tells. telling-all c.args.compiled.now c.args.budget _ _ r (telling-by _ _ _ _ r (ap (λ (v : Booked). v.task) c.in_ok-stream.ensures.ledger) tells)) c.stream_by.ensures.told

pub returns-clause-front : goal.returns-clause-front
returns-clause-front g c = front-by _ _ _ _ _ _ c.in_ok-stream.ensures.compiled c.stream_by.ensures.front

pub returns-in_err-stream-clause-front : goal.returns-in_err-stream-clause-front
returns-in_err-stream-clause-front g c = nothing-heard c.args.compiled.now _ _ _ c.requires.program c.requires.none

pub returns-in_err-stream-clause-after : goal.returns-in_err-stream-clause-after
returns-in_err-stream-clause-after g c = g.met.R.Reader.begins c.args.reader.now

pub returns-in_err-stream-clause-heard : goal.returns-in_err-stream-clause-heard
returns-in_err-stream-clause-heard g c = g.met.W.Watch.begins c.args.watch.now

pub returns-in_err-propagator-clause-front : goal.returns-in_err-propagator-clause-front
returns-in_err-propagator-clause-front g c = nothing-heard c.args.compiled.now _ _ _ c.requires.program c.requires.none

pub returns-in_err-propagator-clause-after : goal.returns-in_err-propagator-clause-after
returns-in_err-propagator-clause-after g c = g.met.R.Reader.begins c.args.reader.now

pub returns-in_err-propagator-clause-heard : goal.returns-in_err-propagator-clause-heard
returns-in_err-propagator-clause-heard g c = g.met.W.Watch.begins c.args.watch.now
