use Rattle.std.proofs.Common.{◌≡◌, take}
use Rattle.asp_settle.specs.Tables.{places_from}
use Rattle.asp_settle.proofs.table.AtomTable.to_set.Given as goal

abbrev pub invariant-loop-place : goal.invariant-loop-place
invariant-loop-place l = l.atoms.items ≡ places_from 0 (take l.place l.flag-items)
