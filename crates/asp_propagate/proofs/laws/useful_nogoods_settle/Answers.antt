use Rattle.asp_propagate.proofs.UsefulLaws.{useful_settles}
use Rattle.asp_propagate.proofs.laws.useful_nogoods_settle.Goals as goal

pub returns : goal.returns
returns c p known bound n u = useful_settles p known bound n u
