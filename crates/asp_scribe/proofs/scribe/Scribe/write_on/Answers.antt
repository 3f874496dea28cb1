use Rattle.asp_scribe.proofs.ScribeLaws.{goes-on}
use Rattle.asp_scribe.proofs.scribe.Scribe.write_on.Goals as goal

pub returns-then-is_err-clause-begun : goal.returns-then-is_err-clause-begun
returns-then-is_err-clause-begun g c = λ s start b. goes-on s start _ _ _ _ c.as_slice.result.now c.put_more-self.ensures b

pub returns-in-Some-clause-begun : goal.returns-in-Some-clause-begun
returns-in-Some-clause-begun g c = λ s start b. goes-on s start _ _ _ _ c.as_slice.result.now c.put_more-self.ensures b
