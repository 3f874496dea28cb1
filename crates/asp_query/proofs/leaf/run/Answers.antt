use Rattle.asp_query.proofs.TurnLaws.{along-ahead, along-refuted}
use Rattle.asp_query.proofs.leaf.run.Goals as goal

pub returns-in-Some-clause-leaves : goal.returns-in-Some-clause-leaves
returns-in-Some-clause-leaves g c =
    let a = along-ahead c.args.book.now c.steps.book c.steps.search c.propagate.new.self c.steps.fuel c.steps.invariant.along c.in_ok-propagate.ensures.ok in
    along-refuted c.args.book.now c.steps.book c.propagate.new.self c.steps.fuel c.args.cube.now c.in-Some.refutation.items a
    (rw c.in-Some.is at (c.in_ok-refutation.ensures _ a.asking.entered))
