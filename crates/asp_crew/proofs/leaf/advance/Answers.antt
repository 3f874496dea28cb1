use Rattle.asp_crew.proofs.KnownLaws.{taken}
use Rattle.asp_crew.proofs.StepLaws.{may-step, answer-may, decided, learnt, restarted, is-answer, answered, closed, unpaid}
use Rattle.asp_crew.proofs.leaf.advance.Goals as goal

pub step-requires : goal.step-requires
step-requires g c = let may = may-step c.args.mode c.args.book.now c.args.search.now c.args.fuel.now c.requires.underway in record { entered = may.0; program = may.1 }

pub returns-in-Decided : goal.returns-in-Decided
returns-in-Decided g c =
    decided _ _ c.args.mode c.args.book.now c.args.search.now c.step.new.search c.args.fuel.now c.step.new.fuel c.requires.underway _
    c.in_ok-step.ensures.ok c.in-Decided.is c.in_ok-step.ensures.few

pub returns-in-Learnt : goal.returns-in-Learnt
returns-in-Learnt g c = learnt _ _ c.args.mode c.args.book.now c.args.search.now c.step.new.search c.args.fuel.now c.step.new.fuel c.requires.underway _ c.in_ok-step.ensures.ok c.in-Learnt.is

pub returns-in-Restarted : goal.returns-in-Restarted
returns-in-Restarted g c = restarted _ _ c.args.mode c.args.book.now c.args.search.now c.step.new.search c.args.fuel.now c.step.new.fuel c.requires.underway _ c.in_ok-step.ensures.ok c.in-Restarted.is

pub record-requires : goal.record-requires
record-requires g c = record {
  may = answer-may _ _ c.args.mode c.args.book.now c.args.search.now c.step.new.search c.args.fuel.now c.step.new.fuel c.requires.underway _ c.in_ok-step.ensures.ok c.in-Answer.set c.in-Answer.is;
  answer = is-answer _ _ c.args.mode c.args.book.now c.args.search.now c.step.new.search c.args.fuel.now c.step.new.fuel c.requires.underway _ c.in_ok-step.ensures.ok c.in-Answer.set c.in-Answer.is;
  wanted = c.requires.wanted;
}

pub take_known-requires : goal.take_known-requires
take_known-requires g c = (
  c.args.mode,
  c.step.new.fuel,
  (answered _ _ c.args.mode c.args.book.now c.record.new.book c.args.search.now c.step.new.search c.args.fuel.now c.step.new.fuel c.requires.underway
      _ c.in_ok-step.ensures.ok c.in-Answer.set c.in-Answer.is
      c.in_ok-record-in-Answer.ensures.only c.in_ok-record-in-Answer.ensures.recorded).underway.ready,
)

pub returns-in_ok-take_known-in-Answer : goal.returns-in_ok-take_known-in-Answer
returns-in_ok-take_known-in-Answer g c =
    taken c.args.mode c.args.book.now c.record.new.book c.args.search.now c.step.new.search c.take_known.new.search c.args.fuel.now c.step.new.fuel c.unshown_atoms-knew.result
    (answered _ _ c.args.mode c.args.book.now c.record.new.book c.args.search.now c.step.new.search c.args.fuel.now c.step.new.fuel
    c.requires.underway _ c.in_ok-step.ensures.ok c.in-Answer.set c.in-Answer.is
    c.in_ok-record-in-Answer.ensures.only c.in_ok-record-in-Answer.ensures.recorded)
    c.unshown_atoms-knew.ensures c.in_ok-take_known-in-Answer.ensures

pub returns-in-Closed : goal.returns-in-Closed
returns-in-Closed g c =
    closed _ _ c.args.mode c.args.book.now c.args.search.now c.step.new.search c.args.fuel.now c.step.new.fuel c.requires.underway _
    c.in_ok-step.ensures.ok c.requires.wanted c.in-Closed.nogood c.in-Closed.is

pub returns-in-NoFuel : goal.returns-in-NoFuel
returns-in-NoFuel g c =
    unpaid _ _ c.args.mode c.args.book.now c.args.search.now c.step.new.search c.args.fuel.now c.step.new.fuel c.requires.underway _
    c.in_ok-step.ensures.ok c.requires.wanted c.in-NoFuel.conflict c.in-NoFuel.is
