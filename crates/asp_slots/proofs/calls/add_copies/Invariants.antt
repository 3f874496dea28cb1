use Rattle.std.proofs.Common.{◌≡◌, ◌-◌, ◌++◌, List, length}
use Rattle.std.specs.List.{All}
use Rattle.asp_vars.specs.declared.nogood.Nogood.{Nogood}
use Rattle.asp_log.specs.Entries.{IsEntry}
use Rattle.asp_slots.proofs.calls.add_copies.Given as goal

abbrev pub invariant-loop-at : goal.invariant-loop-at
invariant-loop-at g l = (added : List Nogood) × (l.list.items ≡ l.initial.list.items ++ added) × (length added ≡ l.at - l.initial.from) × All (IsEntry l.initial.row.program.value) added
