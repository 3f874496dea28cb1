use Rattle.std.proofs.Common.{◌≡◌, false, take}
use Rattle.std.specs.List.{list_any}
use Rattle.asp_scc.specs.Numbers.{is_looped}
use Rattle.asp_scc.proofs.find.is_some_looped.Given as goal

abbrev pub invariant-loop-node : goal.invariant-loop-node
invariant-loop-node l = list_any (is_looped l.graph l.classes) (take l.node-index l.nodes) ≡ false
