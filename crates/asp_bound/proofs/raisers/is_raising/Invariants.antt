use Rattle.std.proofs.Common.{◌≡◌, false, take}
use Rattle.asp_bound.specs.Raisers.{is_raising}
use Rattle.asp_bound.proofs.raisers.is_raising.Given as goal

abbrev pub invariant-loop-place : goal.invariant-loop-place
invariant-loop-place l = is_raising (take l.place-index l.row) l.truth ≡ false
