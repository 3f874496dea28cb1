use Rattle.std.proofs.Common.{◌≡◌, replicate}
use Rattle.asp_slots.proofs.row.empty.Given as goal

abbrev pub invariant-loop : goal.invariant-loop
invariant-loop l = l.slots.items ≡ replicate l.counter l.initial.program
