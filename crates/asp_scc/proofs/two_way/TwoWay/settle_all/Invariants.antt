use Rattle.std.proofs.Common.{◌≢◌, ◌<◌, ℕ, get_or}
use Rattle.asp_scc.specs.Classes.{AreClasses}
use Rattle.asp_scc.proofs.two_way.TwoWay.settle_all.Given as goal

abbrev pub invariant-loop-node : goal.invariant-loop-node
invariant-loop-node l = AreClasses l.self l.states × ((k : ℕ) → k < l.node → get_or l.states k 0 ≢ 0)
