use Rattle.asp_proof.proofs.CutLaws.{after_front}
use Rattle.asp_proof.proofs.fields.after.Goals as goal

pub returns : goal.returns
returns c = after_front (λ x. x.now) c.strip_prefix.result c.args.text.now c.args.front.now c.strip_prefix.ensures.cases
