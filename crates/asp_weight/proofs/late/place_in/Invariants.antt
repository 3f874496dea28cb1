use Rattle.std.proofs.Common.{◌≢◌, ℕ, ◌<◌}
use Rattle.asp_weight.specs.Rows.{on}
use Rattle.asp_weight.specs.Spoken.{item_at}
use Rattle.asp_weight.proofs.late.place_in.Given as goal

abbrev pub invariant-loop-i : goal.invariant-loop-i
invariant-loop-i l = (k : ℕ) → k < l.i → on l.side (item_at l.row k).lit ≢ l.lit
