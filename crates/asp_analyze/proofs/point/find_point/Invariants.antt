use Rattle.std.proofs.Common.{◌≡◌, ◌-◌, length}
use Rattle.asp_vars.specs.declared.nogood.Nogood.{Nogood}
use Rattle.asp_analyze.specs.Way.{IsOnTheWay, IsDown}
use Rattle.asp_analyze.proofs.point.find_point.Given as goal

abbrev pub invariant-loop-back : goal.invariant-loop-back
invariant-loop-back g l = record {
  some : (from : Nogood) × IsOnTheWay l.trail.entries (g.R.Reasons.says l.reasons) from l.top l.marks l.base;
  way : (from : Nogood) → IsOnTheWay l.trail.entries (g.R.Reasons.says l.reasons) from l.top l.initial.marks l.initial.base →
      IsOnTheWay l.trail.entries (g.R.Reasons.says l.reasons) from l.top l.marks l.base;
  down : IsDown l.trail.entries (length l.trail.entries - l.back) l.marks.marks;
  size : length l.marks.marks ≡ length l.initial.marks.marks;
}
