use Rattle.asp_proof.proofs.TextLaws.{one_proof}
use Rattle.asp_proof.proofs.laws.one_text_is_one_proofs.Goals as goal

pub returns : goal.returns
returns c = one_proof
