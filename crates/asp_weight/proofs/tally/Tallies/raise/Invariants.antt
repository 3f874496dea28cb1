use Rattle.std.proofs.Common.{◌≡◌, take}
use Rattle.asp_weight.specs.Tallied.{raise_all}
use Rattle.asp_weight.proofs.tally.Tallies.raise.Given as goal

abbrev pub invariant-loop-place : goal.invariant-loop-place
invariant-loop-place l = l.self.tallies ≡ raise_all l.truth l.initial.self.tallies (take l.place-index l.places)
