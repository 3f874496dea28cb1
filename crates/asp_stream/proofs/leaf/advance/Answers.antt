use Rattle.asp_model.specs.declared.results.Mode.TheVariants.{Enum}
use Rattle.asp_crew.proofs.StepLaws.{answer-may, is-answer, may-step}
use Rattle.asp_stream.proofs.CourseLaws.{goes-answered, goes-closed, goes-decided, goes-learnt, goes-restarted, goes-unpaid}
use Rattle.asp_stream.proofs.leaf.advance.Goals as goal

pub step-requires : goal.step-requires
step-requires g c = let may = may-step Enum c.args.stream.now.ledger c.args.search.now c.args.fuel.now c.requires.underway in record { entered = may.0; program = may.1 }

pub returns-in-Decided-clause-goes : goal.returns-in-Decided-clause-goes
returns-in-Decided-clause-goes g c =
    goes-decided _ _ c.args.stream.now.ledger c.args.search.now c.step.new.search c.args.fuel.now c.step.new.fuel c.requires.underway _
    c.in_ok-step.ensures.ok c.in-Decided.is c.in_ok-step.ensures.few

pub returns-in-Learnt-clause-goes : goal.returns-in-Learnt-clause-goes
returns-in-Learnt-clause-goes g c =
    goes-learnt _ _ c.args.stream.now.ledger c.args.search.now c.step.new.search c.args.fuel.now c.step.new.fuel c.requires.underway _ c.in_ok-step.ensures.ok c.in-Learnt.is

pub returns-in-Restarted-clause-goes : goal.returns-in-Restarted-clause-goes
returns-in-Restarted-clause-goes g c =
    goes-restarted _ _ c.args.stream.now.ledger c.args.search.now c.step.new.search c.args.fuel.now c.step.new.fuel c.requires.underway _ c.in_ok-step.ensures.ok c.in-Restarted.is

pub deliver-requires : goal.deliver-requires
deliver-requires g c = record {
  answer = is-answer _ _ Enum c.args.stream.now.ledger c.args.search.now c.step.new.search c.args.fuel.now c.step.new.fuel c.requires.underway _ c.in_ok-step.ensures.ok
      c.in-Answer.set c.in-Answer.is;
  listed = answer-may _ _ Enum c.args.stream.now.ledger c.args.search.now c.step.new.search c.args.fuel.now c.step.new.fuel c.requires.underway _ c.in_ok-step.ensures.ok
      c.in-Answer.set c.in-Answer.is;
  program = c.requires.program;
  atoms = c.requires.atoms;
}

pub returns-in_ok-deliver-in-Answer-clause-goes : goal.returns-in_ok-deliver-in-Answer-clause-goes
returns-in_ok-deliver-in-Answer-clause-goes g c =
    goes-answered _ _ c.args.stream.now.ledger c.args.search.now c.step.new.search c.args.fuel.now c.step.new.fuel c.requires.underway _
    c.in_ok-step.ensures.ok c.lawful.ensures.task c.deliver.new.self.ledger c.in-Answer.set c.in-Answer.is c.in_ok-deliver-in-Answer.ensures.ledger

pub returns-in-Closed-clause-goes : goal.returns-in-Closed-clause-goes
returns-in-Closed-clause-goes g c =
    goes-closed _ _ c.args.stream.now.ledger c.args.search.now c.step.new.search c.args.fuel.now c.step.new.fuel c.requires.underway _
    c.in_ok-step.ensures.ok c.lawful.ensures.task c.in-Closed.nogood c.in-Closed.is

pub returns-in-NoFuel-clause-goes : goal.returns-in-NoFuel-clause-goes
returns-in-NoFuel-clause-goes g c =
    goes-unpaid _ _ c.args.stream.now.ledger c.args.search.now c.step.new.search c.args.fuel.now c.step.new.fuel c.requires.underway _
    c.in_ok-step.ensures.ok c.lawful.ensures.task c.in-NoFuel.conflict c.in-NoFuel.is
