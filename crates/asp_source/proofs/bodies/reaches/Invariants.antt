use Rattle.std.proofs.Common.{◌≡◌, ◌<◌, take}
use Rattle.std.specs.Prelude.{pos, ◌-ℤ◌}
use Rattle.asp_loop.specs.Weighing.{weigh}
use Rattle.asp_source.specs.Marks.{lit_outside}
use Rattle.asp_source.proofs.bodies.reaches.Given as goal

abbrev pub invariant-loop-i : goal.invariant-loop-i
invariant-loop-i g l =
    (0 < l.left) × (pos l.left ≡ (l.fn.bound -ℤ weigh (lit_outside l.values (g.I.Inside.has_var l.set)) (take l.i l.lits) (take l.i l.weights)))
