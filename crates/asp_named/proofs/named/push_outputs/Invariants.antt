use Rattle.std.proofs.Common.{◌≡◌, ◌+◌, ◌++◌, drop}
use Rattle.asp_named.specs.Named.{named_outputs}
use Rattle.asp_named.proofs.named.push_outputs.Given as goal

abbrev pub invariant-loop-i : goal.invariant-loop-i
invariant-loop-i l = l.named ++ named_outputs (l.first + l.i) (drop l.i l.outputs) ≡ l.initial.named ++ named_outputs l.first l.outputs
