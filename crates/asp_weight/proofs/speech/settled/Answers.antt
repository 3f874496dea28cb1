use Rattle.std.proofs.Common.{arith}
use Rattle.asp_trail.proofs.HeldLaws.{length_assigned}
use Rattle.std.proofs.Common.{take}
use Rattle.asp_weight.proofs.speech.settled.Goals as goal

pub gather-requires-clause-within : goal.gather-requires-clause-within
gather-requires-clause-within c i d h =
    omega (arith, c.requires.within i d h, length_assigned c.args.trail.now.vars (take c.args.place c.args.trail.now.entries))
