use Rattle.std.proofs.Common.{◌≡◌, take}
use Rattle.asp_bound.specs.Rises.{raised}
use Rattle.asp_bound.proofs.sums.raised.Given as goal

abbrev pub invariant-loop-place : goal.invariant-loop-place
invariant-loop-place l = l.sum ≡ raised (take l.place-index l.row) l.level l.truth
