use Rattle.asp_model.proofs.ModelLaws.{models-any}
use Rattle.asp_model.proofs.laws.larger_universes_have_the_same_models.Goals as goal

pub returns : goal.returns
returns c = models-any
