use Rattle.asp_unfold.proofs.SameLaws.{same-answers, same-cost, same-stable}
use Rattle.asp_unfold.proofs.MentionLaws.{same-atoms}
use Rattle.asp_unfold.proofs.SoundLaws.{sound-unfolded}
use Rattle.asp_unfold.proofs.laws.unfolded_answers_are_the_same.Goals as goal

pub returns : goal.returns
returns c = record { sound = sound-unfolded; atoms = same-atoms; stable = same-stable; answers = same-answers; costs = same-cost }
