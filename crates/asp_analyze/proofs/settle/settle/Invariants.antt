use Rattle.std.proofs.Common.{◌≡◌, ◌-◌, length}
use Rattle.asp_vars.specs.declared.nogood.Nogood.{Nogood}
use Rattle.asp_analyze.specs.Way.{IsOnTheWay, AreSettled, Goes}
use Rattle.asp_analyze.proofs.settle.settle.Given as goal

abbrev pub invariant-loop-i : goal.invariant-loop-i
invariant-loop-i g l = record {
  some : (from : Nogood) × IsOnTheWay l.trail.entries (g.R.Reasons.says l.reasons) from l.top l.marks l.base;
  way : (from : Nogood) → IsOnTheWay l.trail.entries (g.R.Reasons.says l.reasons) from l.top l.initial.marks l.initial.base →
      IsOnTheWay l.trail.entries (g.R.Reasons.says l.reasons) from l.top l.marks l.base;
  goes : Goes l.trail.entries l.initial.marks l.marks;
  settled : AreSettled l.i l.marks;
  size : length l.marks.marks ≡ length l.initial.marks.marks;
}

abbrev pub decreases-loop-i : goal.decreases-loop-i
decreases-loop-i g l = length l.marks.marks - l.i
