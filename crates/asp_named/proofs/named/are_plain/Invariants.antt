use Rattle.std.proofs.Common.{◌≡◌, true, take}
use Rattle.asp_named.specs.Named.{are_plain}
use Rattle.asp_named.proofs.named.are_plain.Given as goal

abbrev pub invariant-loop-i : goal.invariant-loop-i
invariant-loop-i l = are_plain (take l.i l.outputs) ≡ true
