use Rattle.asp_scribe.proofs.ScribeLaws.{ends}
use Rattle.asp_scribe.proofs.scribe.Scribe.end.Goals as goal

pub returns-clause-ended : goal.returns-clause-ended
returns-clause-ended g c = λ s start b. ends s start _ _ _ _ _ _ c.put_end.ensures.goes c.put_end.ensures.empty (c.write_on.ensures.begun s start b)
