use Rattle.std.proofs.Common.{◌≡◌, take, length}
use Rattle.std.specs.Prelude.{fold}
use Rattle.asp_scc.specs.Edges.{with_edge}
use Rattle.asp_scc.proofs.two_way.turn_row.Given as goal

abbrev pub invariant-loop-target : goal.invariant-loop-target
invariant-loop-target l =
    (length l.rows ≡ length l.initial.rows) × (l.rows ≡ fold (with_edge l.node) l.initial.rows (take l.target-index l.targets))
