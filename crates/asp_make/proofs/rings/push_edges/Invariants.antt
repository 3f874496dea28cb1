use Rattle.std.proofs.Common.{◌≡◌, ◌++◌, ◌+◌, ◌%◌}
use Rattle.asp_make.specs.Ring.{each_below, edge_rules}
use Rattle.asp_make.proofs.rings.push_edges.Given as goal

abbrev pub invariant-loop-node : goal.invariant-loop-node
invariant-loop-node l = l.rules.items ≡ l.initial.rules.items ++ each_below (λ i. edge_rules i ((i + 1) % l.nodes)) l.node
