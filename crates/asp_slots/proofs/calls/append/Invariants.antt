use Rattle.std.proofs.Common.{◌≡◌, ◌≤◌}
use Rattle.asp_slots.specs.Rules.{SLOT_COUNT, seeing}
use Rattle.asp_slots.specs.Seats.{view, IsBeside}
use Rattle.asp_slots.proofs.calls.append.Given as goal

abbrev pub invariant-loop : goal.invariant-loop
invariant-loop g l = (l.next ≤ SLOT_COUNT) × ((view l.initial.seat).seen ≤ l.next) × IsBeside l.initial.seat l.seat × (view l.seat ≡ seeing l.next (view l.initial.seat)) × (l.entry ≡ l.initial.entry)
