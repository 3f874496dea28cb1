use Rattle.std.proofs.Common.{arith, ap}
use Rattle.asp_proof.specs.Texts.{lines}
use Rattle.asp_proof.specs.Texts.{line_text}
use Rattle.asp_buffer.proofs.OutLaws.{drop_turn, midway_more, midway_fails}
use Rattle.asp_proof.proofs.write.put_lines.Goals as goal

pub returns-in_err-put_line : goal.returns-in_err-put_line
returns-in_err-put_line g c = midway_fails _ _ _ _ _ _ _ _ _ _ c.loop-entry.invariant c.in_err-put_line.ensures
    (ap (lines line_text) (drop_turn c.args.entries.now c.loop-entry.entry-index c.entry-item.result (omega arith) c.entry-item.is)) c.from_residual.ensures.1

pub loop-entry-preserved : goal.loop-entry-preserved
loop-entry-preserved g c = midway_more _ _ _ _ _ _ _ _ c.loop-entry.invariant c.in_ok-put_line.ensures
    (ap (lines line_text) (drop_turn c.args.entries.now c.loop-entry.entry-index c.entry-item.result (omega arith) c.entry-item.is))
