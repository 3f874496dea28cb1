use Rattle.asp_proof.proofs.TextLaws.{faultless, one_whole, start_of}
use Rattle.asp_proof.proofs.laws.written_proofs_are_read_as_themselves.Goals as goal

pub returns-clause-faultless : goal.returns-clause-faultless
returns-clause-faultless c = faultless

pub returns-clause-own : goal.returns-clause-own
returns-clause-own c = start_of

pub returns-clause-whole : goal.returns-clause-whole
returns-clause-whole c = λ p q after h k e. one_whole q p after k h e
