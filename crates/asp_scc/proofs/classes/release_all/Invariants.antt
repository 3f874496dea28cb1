use Rattle.std.proofs.Common.{◌≡◌, take}
use Rattle.std.specs.Prelude.{fold}
use Rattle.asp_scc.specs.Classes.{released}
use Rattle.asp_scc.proofs.classes.release_all.Given as goal

abbrev pub invariant-loop-node : goal.invariant-loop-node
invariant-loop-node l = l.states ≡ fold released l.initial.states (take l.node-index l.nodes)
