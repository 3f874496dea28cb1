use Rattle.std.proofs.Common.{◌≡◌, ◌<◌, take}
use Rattle.std.specs.Prelude.{pos, ◌-ℤ◌}
use Rattle.asp_loop.specs.Weighing.{weigh}
use Rattle.asp_member.specs.Counting.{counts}
use Rattle.asp_member.proofs.weighing.reaches.Given as goal

abbrev pub invariant-loop-i : goal.invariant-loop-i
invariant-loop-i l =
    (0 < l.left) × (pos l.left ≡ (l.fn.bound -ℤ weigh (counts l.values l.with_open) (take l.i l.lits) (take l.i l.weights)))
