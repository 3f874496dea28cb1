use Rattle.std.proofs.Common.{arith, subst}
use Rattle.asp_model.proofs.WalkLaws.{IsCleared, cleared-first, cleared-more, advanced, advanced-none}
use Rattle.asp_model.proofs.subsets.advance.Goals as goal

pub loop-place-init : goal.loop-place-init
loop-place-init c = cleared-first c.args.marks.now

pub loop-place-preserved : goal.loop-place-preserved
loop-place-preserved c =
    cleared-more c.args.marks.now c.loop-place.marks c.loop-place.place c.loop-place-test.true c.loop-place.invariant c.if-not-marks-place.false

pub returns-then-not-marks-place : goal.returns-then-not-marks-place
returns-then-not-marks-place c =
    λ L. advanced L c.args.marks.now c.loop-place.marks c.loop-place.place c.loop-place-test.true c.loop-place.invariant c.if-not-marks-place.true

pub returns : goal.returns
returns c = λ L.
    advanced-none L c.args.marks.now c.loop-place.marks (subst (IsCleared c.args.marks.now c.loop-place.marks) (omega arith) c.loop-place.invariant)
