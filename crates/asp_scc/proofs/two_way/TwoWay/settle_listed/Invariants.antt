use Rattle.asp_scc.specs.Classes.{AreClasses}
use Rattle.asp_scc.proofs.two_way.TwoWay.settle_listed.Given as goal

abbrev pub invariant-loop-node : goal.invariant-loop-node
invariant-loop-node l = AreClasses l.self l.states
