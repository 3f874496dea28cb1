use Rattle.asp_named.specs.Named.{first_free}
use Rattle.asp_named.proofs.AnswerLaws.{answers-named, split-named}
use Rattle.asp_named.proofs.LimitLaws.{sound-named}
use Rattle.asp_named.proofs.laws.named_answers_are_extended.Goals as goal

pub returns-clause-sound : goal.returns-clause-sound
returns-clause-sound c = sound-named

pub returns-clause-answers : goal.returns-clause-answers
returns-clause-answers c = λ p sound numbers. answers-named (first_free p) p (split-named p sound numbers)
