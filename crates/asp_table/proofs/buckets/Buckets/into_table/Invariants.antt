use Rattle.std.proofs.Common.{◌≡◌, take}
use Rattle.asp_table.proofs.buckets.Buckets.into_table.Given as goal

abbrev pub invariant-loop-row : goal.invariant-loop-row
invariant-loop-row g l = l.table ≡ take l.row l.self-inside.rows.items
