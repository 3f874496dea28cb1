use Rattle.std.proofs.Common.{◌≡◌, ◌≤◌}
use Rattle.asp_top.specs.Loops.{loops_below}
use Rattle.asp_top.proofs.loops.count_loops.Given as goal

abbrev pub invariant-loop-component : goal.invariant-loop-component
invariant-loop-component l = record {
  counts : l.loops ≡ loops_below l.components l.component;
  few : l.loops ≤ l.component;
}
