use Rattle.std.proofs.Common.{take, ◌+◌}
use Rattle.asp_checker.specs.declared.nogoods.Look.TheVariants.{Fixpoint}
use Rattle.asp_checker.proofs.LookLaws.{seen_more, fixpoint_whole, seen_whole}
use Rattle.asp_checker.proofs.nogoods.look_at.Goals as goal

pub returns-in-Fixpoint : goal.returns-in-Fixpoint
returns-in-Fixpoint c = fixpoint_whole c.args.values.now c.args.lits.now (c.loop-lit.lit-index + 1)
    (seen_more c.args.values.now c.args.lits.now c.loop-lit.lit-index c.lit-item.result Fixpoint c.loop-lit-test.true c.lit-item.is
    (c.in-Fixpoint.ensures (take c.loop-lit.lit-index c.args.lits.now) c.loop-lit.invariant))

pub loop-lit-preserved : goal.loop-lit-preserved
loop-lit-preserved c =
    seen_more c.args.values.now c.args.lits.now c.loop-lit.lit-index c.lit-item.result c.with-look.result c.loop-lit-test.true c.lit-item.is
    (c.with-look.ensures (take c.loop-lit.lit-index c.args.lits.now) c.loop-lit.invariant)

pub returns : goal.returns
returns c = seen_whole c.args.values.now c.args.lits.now c.loop-lit.lit-index c.loop-lit.look c.loop-lit-test.false c.loop-lit.invariant
