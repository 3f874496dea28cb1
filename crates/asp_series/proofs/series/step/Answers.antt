use Rattle.std.proofs.Common.{refl}
use Rattle.std.proofs.KnownBytes.{Keeps-refl}
use Rattle.asp_series.proofs.series.step.Goals as goal

pub hand_over-next-requires-clause-plain : goal.hand_over-next-requires-clause-plain
hand_over-next-requires-clause-plain g c = c.requires.askable.plain

pub hand_over-next-requires-clause-reply : goal.hand_over-next-requires-clause-reply
hand_over-next-requires-clause-reply g c = rw c.requires.units c.in-Ok.ensures.reply

pub returns-in-Err-clause-means : goal.returns-in-Err-clause-means
returns-in-Err-clause-means g c = (Keeps-refl _, refl)
