use Rattle.asp_propagate.proofs.UsefulLaws.{useful_more, useful_lower}
use Rattle.asp_propagate.proofs.laws.useful_nogoods_stay.Goals as goal

pub returns-clause-answers : goal.returns-clause-answers
returns-clause-answers c p known S bound n u = useful_more p known S bound n u

pub returns-clause-bound : goal.returns-clause-bound
returns-clause-bound c p known bound d n s u = useful_lower p known bound d n s u
