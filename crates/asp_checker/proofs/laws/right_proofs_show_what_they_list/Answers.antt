use Rattle.asp_checker.proofs.RightLaws.{right-shows}
use Rattle.asp_checker.proofs.laws.right_proofs_show_what_they_list.Goals as goal

pub returns : goal.returns
returns c = right-shows
