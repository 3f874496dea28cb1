use Rattle.std.proofs.Common.{◌≡◌, [], replicate}
use Rattle.asp_table.proofs.buckets.Buckets.new.Given as goal

abbrev pub invariant-loop : goal.invariant-loop
invariant-loop g l = l.rows.items ≡ replicate l.counter []
