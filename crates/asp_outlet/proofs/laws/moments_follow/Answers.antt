use Rattle.asp_outlet.specs.Hearing.{hears_nothing, hears_then}
use Rattle.asp_outlet.proofs.laws.moments_follow.Goals as goal

pub returns : goal.returns
returns c = record { begins = hears_nothing; goes_on = hears_then }
