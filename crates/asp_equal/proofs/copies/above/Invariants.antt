use Rattle.std.proofs.Common.{◌≡◌, ◌≤◌, take}
use Rattle.asp_equal.specs.Copies.{above}
use Rattle.asp_equal.proofs.copies.above.Given as goal

abbrev pub invariant-loop-i : goal.invariant-loop-i
invariant-loop-i l = (l.above ≡ above (take l.i l.rules)) × (l.above ≤ 4294967296)
