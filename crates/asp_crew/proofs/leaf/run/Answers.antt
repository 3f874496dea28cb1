use Rattle.std.proofs.Common.{sym, ◌∙◌, subst}
use Rattle.asp_crew.specs.declared.leaf.Course.{Course}
use Rattle.asp_crew.specs.Running.{Goes}
use Rattle.asp_crew.proofs.StepLaws.{along-begins, along-on, along-closed, along-stopped, along-enough}
use Rattle.asp_crew.proofs.leaf.run.Goals as goal

pub steps-init : goal.steps-init
steps-init g c = record {
  along = along-begins c.args.mode c.args.book.now c.args.search.now c.args.fuel.now c.requires;
  heard = g.met.W.Watch.begins c.args.watch.now;
}

pub steps-preserved : goal.steps-preserved
steps-preserved g c = record {
  along = along-on c.args.mode c.args.book.now c.steps.book c.advance.new.book c.args.search.now c.steps.search c.advance.new.search c.steps.fuel
      c.advance.new.fuel c.in_ok-course.course c.steps.invariant.along c.in_ok-course.ensures;
  heard = g.met.W.Watch.goes_on c.args.watch.now c.steps.watch c.tell.new.watch c.steps.invariant.heard c.tell.ensures;
}

pub steps-smaller : goal.steps-smaller
steps-smaller g c =
    (subst (λ (how : Course). Goes c.args.mode c.steps.book c.advance.new.book c.steps.search c.advance.new.search c.steps.fuel c.advance.new.fuel how) c.in-Open.is c.in_ok-course.ensures).course

pub returns-in-Closed-clause-ends : goal.returns-in-Closed-clause-ends
returns-in-Closed-clause-ends g c =
    along-closed c.args.mode c.args.book.now c.steps.book c.advance.new.book c.args.search.now c.steps.search c.advance.new.search c.steps.fuel
    c.advance.new.fuel c.in-Closed.nogood c.steps.invariant.along
    (subst (λ (how : Course). Goes c.args.mode c.steps.book c.advance.new.book c.steps.search c.advance.new.search c.steps.fuel c.advance.new.fuel how) c.in-Closed.is c.in_ok-course.ensures)

pub returns-in-Closed-clause-heard : goal.returns-in-Closed-clause-heard
returns-in-Closed-clause-heard g c = g.met.W.Watch.goes_on c.args.watch.now c.steps.watch c.tell.new.watch c.steps.invariant.heard c.tell.ensures

pub returns-in-Unpaid-clause-ends : goal.returns-in-Unpaid-clause-ends
returns-in-Unpaid-clause-ends g c =
    along-stopped c.args.mode c.args.book.now c.steps.book c.advance.new.book c.args.search.now c.steps.search c.advance.new.search c.steps.fuel
    c.advance.new.fuel c.in-Unpaid.conflict c.steps.invariant.along
    (subst (λ (how : Course). Goes c.args.mode c.steps.book c.advance.new.book c.steps.search c.advance.new.search c.steps.fuel c.advance.new.fuel how) c.in-Unpaid.is c.in_ok-course.ensures)

pub returns-in-Unpaid-clause-heard : goal.returns-in-Unpaid-clause-heard
returns-in-Unpaid-clause-heard g c = g.met.W.Watch.goes_on c.args.watch.now c.steps.watch c.tell.new.watch c.steps.invariant.heard c.tell.ensures

pub returns-then-enough-clause-ends : goal.returns-then-enough-clause-ends
returns-then-enough-clause-ends g c =
    along-enough c.args.mode c.args.book.now c.steps.book c.args.search.now c.steps.search c.steps.fuel c.steps.invariant.along (sym c.enough.ensures ∙ c.if-enough.true)
