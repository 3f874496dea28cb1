use Rattle.std.proofs.Common.{◌≡◌, false, take, get_or, eqb}
use Rattle.std.specs.List.{list_any}
use Rattle.asp_scc.specs.Graphs.{edges}
use Rattle.asp_scc.proofs.find.is_looped.Given as goal

abbrev pub invariant-loop-next : goal.invariant-loop-next
invariant-loop-next l =
    list_any (λ w. eqb (get_or l.classes w 0) (get_or l.classes l.node 0)) (take l.next-index (edges l.graph l.node)) ≡ false
