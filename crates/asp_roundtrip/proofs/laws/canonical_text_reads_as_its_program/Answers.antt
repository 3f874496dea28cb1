use Rattle.asp_roundtrip.proofs.GivenTexts.{outcome_given}
use Rattle.asp_roundtrip.proofs.ShorterTexts.{outcome_shorter}
use Rattle.asp_roundtrip.proofs.WrittenTexts.{readable_back}
use Rattle.asp_roundtrip.proofs.laws.canonical_text_reads_as_its_program.Goals as goal

pub returns : goal.returns
returns c = record {
  same = λ text program e few. readable_back program ((outcome_given text).each program e) few;
  short = λ text program e. (outcome_shorter text).each program e;
}
