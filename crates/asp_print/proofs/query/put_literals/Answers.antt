use Rattle.std.proofs.Common.{arith, ap}
use Rattle.std.specs.Prelude.{pos}
use Rattle.asp_buffer.proofs.OutLaws.{drop_turn_or, midway_more, midway_fails}
use Rattle.asp_print.specs.Queries.{literals_text}
use Rattle.asp_print.proofs.query.put_literals.Goals as goal

pub returns-in_err-put_literal : goal.returns-in_err-put_literal
returns-in_err-put_literal g c = midway_fails _ _ _ _ _ _ _ _ _ _ c.loop-literal.invariant c.in_err-put_literal.ensures
    (ap (literals_text c.args.names c.args.outputs.now) (drop_turn_or c.args.literals.now c.loop-literal.literal-index (pos 0) (omega arith))) c.from_residual.ensures.1

pub loop-literal-preserved : goal.loop-literal-preserved
loop-literal-preserved g c = midway_more _ _ _ _ _ _ _ _ c.loop-literal.invariant c.in_ok-put_literal.ensures
    (ap (literals_text c.args.names c.args.outputs.now) (drop_turn_or c.args.literals.now c.loop-literal.literal-index (pos 0) (omega arith)))
