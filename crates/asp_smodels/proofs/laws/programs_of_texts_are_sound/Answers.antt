use Rattle.asp_smodels.proofs.Soundness.{outcome-sound}
use Rattle.asp_smodels.proofs.laws.programs_of_texts_are_sound.Goals as goal

pub returns : goal.returns
returns c = outcome-sound
