use Rattle.asp_model.proofs.ModelLaws.{answers-are, answers-rise}
use Rattle.asp_model.proofs.laws.answers_are_the_assumed_models.Goals as goal

pub returns : goal.returns
returns c = record { exact = answers-are; order = answers-rise }
