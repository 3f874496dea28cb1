use Rattle.std.proofs.Common.{◌≡◌, take}
use Rattle.std.specs.Prelude.{fold}
use Rattle.asp_scc.specs.Searches.{mark}
use Rattle.asp_scc.proofs.search.mark_all.Given as goal

abbrev pub invariant-loop-node : goal.invariant-loop-node
invariant-loop-node l =
    (l.states, l.found.items) ≡ fold (mark l.old l.new) (l.initial.states, l.initial.found.items) (take l.node-index l.nodes)
