use Rattle.std.proofs.Common.{get_or, subst}
use Rattle.std.specs.Prelude.{ℤ, pos}
use Rattle.asp_vars.specs.Literals.{Literal}
use Rattle.asp_loop.specs.Weighing.{ChoosesOne}
use Rattle.asp_loop.proofs.WeighLaws.{choose_more}
use Rattle.asp_loop.proofs.weighing.choose.Goals as goal

pub loop-i-preserved : goal.loop-i-preserved
loop-i-preserved c =
    let step = subst (λ (w : ℤ). ChoosesOne c.args.assign.now c.args.vars.now (get_or c.args.lits.now c.loop-i.i c.index-lits-i.result) w
    c.loop-i.left c.in_ok-left.left c.loop-i.part c.choose_one.new.part) c.weight_at.ensures
    (subst (λ (l : Literal). ChoosesOne c.args.assign.now c.args.vars.now l (pos c.weight_at.result) c.loop-i.left c.in_ok-left.left c.loop-i.part
    c.choose_one.new.part) c.index-lits-i.is c.in_ok-left.ensures) in
    choose_more c.args.assign.now c.args.vars.now c.args.lits.now c.args.weights.now c.args.slack c.args.part.now c.loop-i.part c.choose_one.new.part
    c.loop-i.left c.in_ok-left.left c.loop-i.i c.index-lits-i.result (pos 0) c.loop-i-test.true c.requires.size c.requires.weights step
    c.loop-i.invariant
