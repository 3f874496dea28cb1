use Rattle.asp_proof.proofs.TextLaws.{faultless}
use Rattle.asp_checker.proofs.ToldLaws.{told-not_right}
use Rattle.asp_checker.proofs.laws.proofs_that_are_told_wrong_are_not_right.Goals as goal

pub returns-clause-wrong : goal.returns-clause-wrong
returns-clause-wrong c = told-not_right

pub returns-clause-refused : goal.returns-clause-refused
returns-clause-refused c = λ p proof number is h. faultless proof is number h.first
