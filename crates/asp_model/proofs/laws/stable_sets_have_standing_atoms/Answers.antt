use Rattle.asp_model.proofs.ModelLaws.{stable-subset, stable-heads}
use Rattle.asp_model.proofs.laws.stable_sets_have_standing_atoms.Goals as goal

pub returns : goal.returns
returns c = record { ascending = λ p S h. (stable-subset p S h).0; standing = λ p S h. (stable-subset p S h).1; heads = stable-heads }
