use Rattle.std.proofs.Common.{◌≡◌, ◌*◌, take, pos, ◌≤ℤ◌}
use Rattle.asp_settle.specs.Settled.{settled_weight}
use Rattle.asp_settle.proofs.bodies.settled_weight.Given as goal

abbrev pub invariant-loop-literal : goal.invariant-loop-literal
invariant-loop-literal l = record {
  sum : l.total ≡ settled_weight l.facts (take l.literal-index l.items);
  low : pos 0 ≤ℤ l.total;
  high : l.total ≤ℤ pos (2147483648 * l.literal-index);
}
