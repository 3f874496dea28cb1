use Rattle.std.proofs.Common.{◌≡◌, false, take}
use Rattle.asp_bound.specs.Reasons.{raises}
use Rattle.asp_bound.proofs.reasons.raises.Given as goal

abbrev pub invariant-loop-place : goal.invariant-loop-place
invariant-loop-place l = raises (take l.place-index l.row) l.depth l.truth ≡ false
