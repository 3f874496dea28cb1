use Rattle.asp_trail_laws.proofs.AnswerLaws.{answer_new, answer_settles}
use Rattle.asp_trail_laws.proofs.laws.answers_are_new.Goals as goal

pub returns : goal.returns
returns c = record {
  new = answer_new;
  settled = λ p known bound vars cube decisions es w r s. answer_settles p known bound vars cube decisions es w r s;
}
