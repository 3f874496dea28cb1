use Rattle.asp_search_laws.proofs.UsefulLaws.{learnt_useful}
use Rattle.asp_search_laws.proofs.laws.learnt_nogoods_count.Goals as goal

pub returns : goal.returns
returns c = learnt_useful
