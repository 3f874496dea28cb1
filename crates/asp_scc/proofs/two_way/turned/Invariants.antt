use Rattle.asp_scc.proofs.TurnLaws.{Turning}
use Rattle.asp_scc.proofs.two_way.turned.Given as goal

abbrev pub invariant-loop-node : goal.invariant-loop-node
invariant-loop-node l = Turning l.graph l.rows l.node
