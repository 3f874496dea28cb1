use Rattle.asp_proof.proofs.CutLaws.{cut_at}
use Rattle.asp_proof.proofs.fields.cut.Goals as goal

pub returns : goal.returns
returns c = rw (c.split_at.ensures.front, c.split_at.ensures.back, c.place.ensures.place) (cut_at c.args.byte c.args.text.now)
