use Rattle.std.proofs.Common.{arith}
use Rattle.asp_source.proofs.loose.collect.Goals as goal

pub overflow_add-place : goal.overflow_add-place
overflow_add-place c = omega (arith, c.vars-vars.ensures.few, c.requires.places c.loop-place.place-index 0 c.loop-place-test.true)
