use Rattle.std.proofs.Common.{◌≡◌, ◌++◌}
use Rattle.asp_make.specs.Ring.{each_below, node_rules}
use Rattle.asp_make.proofs.rings.push_nodes.Given as goal

abbrev pub invariant-loop-node : goal.invariant-loop-node
invariant-loop-node l = l.rules.items ≡ l.initial.rules.items ++ each_below node_rules l.node
