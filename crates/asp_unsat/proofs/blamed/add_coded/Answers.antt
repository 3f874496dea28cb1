use Rattle.std.proofs.Common.{pos, ◌∙◌}
use Rattle.asp_unsat.proofs.BlamedLaws.{coded_more}
use Rattle.asp_unsat.proofs.blamed.add_coded.Goals as goal

pub loop-literal-preserved : goal.loop-literal-preserved
loop-literal-preserved c =
    coded_more c.args.compiled.now c.args.codes.now.keys c.loop-literal.core.items c.add_if_coded.new.core.items c.args.literals.now c.loop-literal.literal-index (pos 0)
    c.loop-literal-test.true c.in_ok-add_if_coded.ensures
    ∙ c.loop-literal.invariant
