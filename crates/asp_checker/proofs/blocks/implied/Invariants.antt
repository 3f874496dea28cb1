use Rattle.std.proofs.Common.{◌≡◌}
use Rattle.asp_checker.specs.Blocks.{AreFree, cost_of_bound}
use Rattle.asp_checker.proofs.blocks.implied.Given as goal

abbrev pub invariant-loop-at : goal.invariant-loop-at
invariant-loop-at l = record {
  same : l.values ≡ l.initial.values;
  free : AreFree l.compiled (cost_of_bound l.bound) l.values l.at;
}
