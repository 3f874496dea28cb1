use Rattle.std.proofs.Common.{arith}
use Rattle.std.specs.Option.{option_copied}
use Rattle.asp_buffer.proofs.OutLaws.{midway_more, midway_fails}
use Rattle.asp_scribe.specs.Lists.{set_of}
use Rattle.asp_scribe.proofs.ListLaws.{answers-turn, last-row, row-at}
use Rattle.asp_scribe.proofs.list.put_answers.Goals as goal

pub returns-in_err-put_answer : goal.returns-in_err-put_answer
returns-in_err-put_answer g c =
    midway_fails _ _ _ _ _ _ _ _ _ _ c.loop-row.invariant.midway c.in_err-put_answer.ensures
    (answers-turn (set_of (option_copied c.loop-row.last)) c.args.rows.now c.loop-row.row-index c.row-item.result (omega arith) c.row-item.is) c.from_residual.ensures.1

pub loop-row-preserved : goal.loop-row-preserved
loop-row-preserved g c = record {
  last = last-row c.args.atoms.now _ (row-at c.args.atoms.now c.args.rows.now c.loop-row.row-index c.row-item.result c.requires.rows c.loop-row-test.true c.row-item.is);
  midway = midway_more _ _ _ _ _ _ _ _ c.loop-row.invariant.midway c.in_ok-put_answer.ensures
      (answers-turn (set_of (option_copied c.loop-row.last)) c.args.rows.now c.loop-row.row-index c.row-item.result (omega arith) c.row-item.is);
}
