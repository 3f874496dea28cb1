use Rattle.std.proofs.Common.{◌≡◌, ◌<◌, take}
use Rattle.std.specs.Prelude.{pos, ◌-ℤ◌}
use Rattle.asp_loop.specs.Weighing.{weigh, is_kept}
use Rattle.asp_checker.proofs.loops.reaches.Given as goal

abbrev pub invariant-loop-i : goal.invariant-loop-i
invariant-loop-i l =
    (0 < l.left) × (pos l.left ≡ (l.fn.bound -ℤ weigh (is_kept l.vars l.nogood) (take l.i l.lits) (take l.i l.weights)))
