use Rattle.asp_trail_laws.proofs.HitLaws.{trail_hit}
use Rattle.asp_trail_laws.proofs.laws.settled_trails_hit.Goals as goal

pub returns : goal.returns
returns c = trail_hit
