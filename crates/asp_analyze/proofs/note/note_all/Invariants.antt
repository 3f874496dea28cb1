use Rattle.std.proofs.Common.{take}
use Rattle.asp_analyze.specs.Way.{AreMarked, Noted}
use Rattle.asp_analyze.proofs.note.note_all.Given as goal

abbrev pub invariant-loop-lit : goal.invariant-loop-lit
invariant-loop-lit l = record {
  marked : AreMarked l.trail.entries l.top l.marks;
  noted : Noted l.trail.entries l.initial.marks l.marks (take l.lit-index l.lits);
}
