use Rattle.std.proofs.Common.{◌≡◌, ◌+◌, ◌++◌, drop}
use Rattle.asp_named.specs.Named.{naming_rules}
use Rattle.asp_named.proofs.named.push_rules.Given as goal

abbrev pub invariant-loop-i : goal.invariant-loop-i
invariant-loop-i l = l.rules ++ naming_rules (l.first + l.i) (drop l.i l.outputs) ≡ l.initial.rules ++ naming_rules l.first l.outputs
