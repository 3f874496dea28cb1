use Rattle.std.proofs.Common.{arith}
use Rattle.asp_buffer.proofs.OutLaws.{midway_more, midway_fails}
use Rattle.asp_print.proofs.ShownLaws.{rows-turn}
use Rattle.asp_print.proofs.answers.put_each.Goals as goal

pub returns-in_err-put_answer : goal.returns-in_err-put_answer
returns-in_err-put_answer g c = midway_fails _ _ _ _ _ _ _ _ _ _ c.loop-row.invariant.text c.in_err-put_answer.ensures
    (rows-turn c.args.program.now c.args.rows.now c.loop-row.row-index c.loop-row.number c.row-item.result (omega arith) c.row-item.is) c.from_residual.ensures.1

pub loop-row-preserved : goal.loop-row-preserved
loop-row-preserved g c = record {
  number = omega arith;
  text = midway_more _ _ _ _ _ _ _ _ c.loop-row.invariant.text c.in_ok-put_answer.ensures
      (rows-turn c.args.program.now c.args.rows.now c.loop-row.row-index c.loop-row.number c.row-item.result (omega arith) c.row-item.is);
}
