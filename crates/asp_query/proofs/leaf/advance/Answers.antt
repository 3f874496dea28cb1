use Rattle.std.proofs.lemmas.Result.{IfOk-weaker}
use Rattle.asp_query.specs.Turns.{IsDelivered, Turns}
use Rattle.asp_query.proofs.TurnLaws.{answer-is, answer-may, decided, delivered, exhausted, learnt, may-step, not-enough, restarted}
use Rattle.asp_query.proofs.leaf.advance.Goals as goal

pub step-requires : goal.step-requires
step-requires g c = let may = may-step c.args.book.now c.args.search.now c.args.fuel.now c.requires.asking in record { entered = may.0; program = may.1 }

pub returns-in-Decided : goal.returns-in-Decided
returns-in-Decided g c =
    decided _ _ c.args.book.now c.args.search.now c.step.new.search c.args.fuel.now c.step.new.fuel c.requires.asking _
    c.in_ok-step.ensures.ok c.in-Decided.is c.in_ok-step.ensures.few

pub returns-in-Learnt : goal.returns-in-Learnt
returns-in-Learnt g c = learnt _ _ c.args.book.now c.args.search.now c.step.new.search c.args.fuel.now c.step.new.fuel c.requires.asking _ c.in_ok-step.ensures.ok c.in-Learnt.is

pub returns-in-Restarted : goal.returns-in-Restarted
returns-in-Restarted g c = restarted _ _ c.args.book.now c.args.search.now c.step.new.search c.args.fuel.now c.step.new.fuel c.requires.asking _ c.in_ok-step.ensures.ok c.in-Restarted.is

pub deliver-requires-clause-listed : goal.deliver-requires-clause-listed
deliver-requires-clause-listed g c =
    answer-may _ _ c.args.book.now c.args.search.now c.step.new.search c.args.fuel.now c.step.new.fuel c.requires.asking _ c.in_ok-step.ensures.ok c.in-Answer.set c.in-Answer.is

pub deliver-requires-clause-answer : goal.deliver-requires-clause-answer
deliver-requires-clause-answer g c =
    answer-is _ _ c.args.book.now c.args.search.now c.step.new.search c.args.fuel.now c.step.new.fuel c.requires.asking _ c.in_ok-step.ensures.ok c.in-Answer.set
    c.args.literals.now c.requires.wanted c.in-Answer.is

pub deliver-requires-clause-more : goal.deliver-requires-clause-more
deliver-requires-clause-more g c = not-enough c.args.book.now c.requires.asking.unlimited

pub returns-in-Closed : goal.returns-in-Closed
returns-in-Closed g c = exhausted _ _ c.args.book.now c.args.search.now c.step.new.search c.args.fuel.now c.step.new.fuel c.requires.asking _ c.in_ok-step.ensures.ok _ c.in-Closed.is

pub returns-in-Answer : goal.returns-in-Answer
returns-in-Answer g c =
    IfOk-weaker c.deliver.result (IsDelivered c.args.book.now c.deliver.new.book c.in-Answer.set)
    (Turns c.args.book.now c.deliver.new.book c.args.search.now c.step.new.search c.args.fuel.now c.step.new.fuel)
    (λ how d. delivered _ _ c.args.book.now c.args.search.now c.step.new.search c.args.fuel.now c.step.new.fuel c.requires.asking _ c.in_ok-step.ensures.ok
    c.deliver.new.book c.in-Answer.set c.in-Answer.is how d) c.deliver.ensures
