use Rattle.asp_vars.proofs.ResolutionLaws.{HitsOnly-resolvent, IsGood-resolvent}
use Rattle.asp_vars.proofs.laws.resolution_keeps_what_both_say.Goals as goal

pub returns : goal.returns
returns c = record { same = HitsOnly-resolvent; joined = IsGood-resolvent }
