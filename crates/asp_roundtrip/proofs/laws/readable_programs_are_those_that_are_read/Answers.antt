use Rattle.asp_roundtrip.proofs.GivenTexts.{outcome_given}
use Rattle.asp_roundtrip.proofs.WrittenTexts.{readable_back}
use Rattle.asp_roundtrip.proofs.laws.readable_programs_are_those_that_are_read.Goals as goal

pub returns : goal.returns
returns c = record { read = λ text program e. (outcome_given text).each program e; written = readable_back }
