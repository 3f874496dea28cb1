use Rattle.std.proofs.Common.{◌≡◌}
use Rattle.asp_slots.proofs.row.Row.fill.Given as goal

abbrev pub invariant-loop : goal.invariant-loop
invariant-loop g l = l.left ≡ l.initial.left
