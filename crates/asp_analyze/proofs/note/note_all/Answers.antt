use Rattle.asp_analyze.proofs.NoteLaws.{noted_more}
use Rattle.asp_analyze.proofs.note.note_all.Goals as goal

pub loop-lit-preserved : goal.loop-lit-preserved
loop-lit-preserved c = record {
  marked = c.note.ensures.marked;
  noted = noted_more c.args.trail.now.entries c.args.marks.now c.loop-lit.marks c.note.new.marks c.args.lits.now c.loop-lit.lit-index
      c.lit-item.result c.loop-lit-test.true c.lit-item.is c.loop-lit.invariant.noted c.note.ensures.noted;
}
