use Rattle.asp_model.proofs.ListedLaws.{same_from_members}
use Rattle.asp_model.proofs.laws.ascending_lists_are_known_by_their_members.Goals as goal

pub returns : goal.returns
returns c = same_from_members
