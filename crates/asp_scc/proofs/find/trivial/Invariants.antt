use Rattle.std.proofs.Common.{◌≡◌, take}
use Rattle.asp_scc.specs.Numbers.{are_trivial}
use Rattle.asp_scc.proofs.find.trivial.Given as goal

abbrev pub invariant-loop-component : goal.invariant-loop-component
invariant-loop-component l = l.trivial.items ≡ are_trivial l.graph l.classes (take l.component l.members)
