use Rattle.std.proofs.Common.{◌≡◌, ◌<◌, take}
use Rattle.std.specs.Prelude.{pos, ◌-ℤ◌}
use Rattle.asp_loop.specs.Weighing.{counts, weigh}
use Rattle.asp_loop.proofs.weighing.slack.Given as goal

abbrev pub invariant-loop-i : goal.invariant-loop-i
invariant-loop-i l =
    (0 < l.left) × (pos l.left ≡ (l.fn.bound -ℤ weigh (counts l.assign l.vars l.open_only) (take l.i l.lits) (take l.i l.weights)))
