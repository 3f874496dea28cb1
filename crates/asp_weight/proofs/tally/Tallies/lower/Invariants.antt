use Rattle.std.proofs.Common.{◌≡◌, take}
use Rattle.asp_weight.specs.Tallied.{lower_all}
use Rattle.asp_weight.proofs.tally.Tallies.lower.Given as goal

abbrev pub invariant-loop-place : goal.invariant-loop-place
invariant-loop-place l = l.self.tallies ≡ lower_all l.truth l.initial.self.tallies (take l.place-index l.places)
