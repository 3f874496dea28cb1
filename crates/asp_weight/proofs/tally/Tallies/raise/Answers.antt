use Rattle.std.proofs.Common.{ap, length, take, false, arith}
use Rattle.asp_weight.proofs.TallyLaws.{length-raise_all, raise_fits}
use Rattle.asp_weight.proofs.tally.Tallies.raise.Goals as goal

pub raise_at-requires-clause-body : goal.raise_at-requires-clause-body
raise_at-requires-clause-body c =
    omega (
      arith,
      ap length c.loop-place.invariant,
      length-raise_all c.args.truth c.args.self.now.tallies (take c.loop-place.place-index c.args.places.now),
      c.requires.within c.loop-place.place-index (record { weight = 0; body = 0; bit = 0; truth = false }) c.loop-place-test.true,
    )

pub raise_at-requires-clause-fits : goal.raise_at-requires-clause-fits
raise_at-requires-clause-fits c =
    rw c.loop-place.invariant
    (raise_fits c.args.truth c.args.self.now.tallies c.args.places.now c.loop-place.place-index (record { weight = 0; body = 0; bit = 0; truth = false }) c.requires c.loop-place-test.true)
