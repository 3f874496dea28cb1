use Rattle.std.proofs.Common.{◌≡◌}
use Rattle.asp_equal.specs.Copies.{copies_below}
use Rattle.asp_equal.specs.Tables.{sent}
use Rattle.asp_equal.proofs.copies.SameTable.copies.Given as goal

abbrev pub invariant-loop-place : goal.invariant-loop-place
invariant-loop-place l = l.copies.items ≡ copies_below (sent l.self) l.place
