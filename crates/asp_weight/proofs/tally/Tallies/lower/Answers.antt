use Rattle.std.proofs.Common.{ap, length, take, false, arith}
use Rattle.asp_weight.proofs.TallyLaws.{length-lower_all, lower_fits}
use Rattle.asp_weight.proofs.tally.Tallies.lower.Goals as goal

pub lower_at-requires-clause-body : goal.lower_at-requires-clause-body
lower_at-requires-clause-body c =
    omega (
      arith,
      ap length c.loop-place.invariant,
      length-lower_all c.args.truth c.args.self.now.tallies (take c.loop-place.place-index c.args.places.now),
      c.requires.within c.loop-place.place-index (record { weight = 0; body = 0; bit = 0; truth = false }) c.loop-place-test.true,
    )

pub lower_at-requires-clause-fits : goal.lower_at-requires-clause-fits
lower_at-requires-clause-fits c =
    rw c.loop-place.invariant
    (lower_fits c.args.truth c.args.self.now.tallies c.args.places.now c.loop-place.place-index (record { weight = 0; body = 0; bit = 0; truth = false }) c.requires c.loop-place-test.true)
