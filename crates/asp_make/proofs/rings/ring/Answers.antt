use Rattle.std.proofs.Common.{sym, subst}
use Rattle.asp_model.specs.Sound.{IsSound}
use Rattle.asp_make.proofs.RingLaws.{ring_is_sound}
use Rattle.asp_make.proofs.rings.ring.Goals as goal

pub returns-clause-sound : goal.returns-clause-sound
returns-clause-sound c = subst IsSound (sym c.in_ok-program.ensures) (ring_is_sound c.args.nodes c.requires.low c.requires.high)
