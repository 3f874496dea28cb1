use Rattle.std.proofs.Common.{◌≡◌, length}
use Rattle.std.specs.List.{All}
use Rattle.asp_vars.specs.declared.nogood.Nogood.{Nogood}
use Rattle.asp_analyze.specs.Way.{IsOnTheWay, Goes, CanGo}
use Rattle.asp_analyze.proofs.minimise.minimise.Given as goal

abbrev pub invariant-looks : goal.invariant-looks
invariant-looks g l = record {
  some : (from : Nogood) × IsOnTheWay l.trail.entries (g.R.Reasons.says l.reasons) from l.top l.marks l.base;
  way : (from : Nogood) → IsOnTheWay l.trail.entries (g.R.Reasons.says l.reasons) from l.top l.initial.marks l.initial.base →
      IsOnTheWay l.trail.entries (g.R.Reasons.says l.reasons) from l.top l.marks l.base;
  path : All (λ f. CanGo l.trail.entries l.top l.marks f.lit) l.path.items;
  goes : Goes l.trail.entries l.initial.marks l.marks;
  size : length l.marks.marks ≡ length l.initial.marks.marks;
}
