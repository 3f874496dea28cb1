use Rattle.std.proofs.Common.{◌≡◌}
use Rattle.asp_make.specs.Ring.{each_below, atoms_of_node}
use Rattle.asp_make.proofs.rings.any_colours.Given as goal

abbrev pub invariant-loop-node : goal.invariant-loop-node
invariant-loop-node l = l.atoms.items ≡ each_below atoms_of_node l.node
