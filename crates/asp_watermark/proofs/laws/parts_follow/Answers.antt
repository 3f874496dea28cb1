use Rattle.asp_watermark.proofs.PartLaws.{next-follows, rest-follows}
use Rattle.asp_watermark.proofs.laws.parts_follow.Goals as goal

pub returns : goal.returns
returns c = record { next = next-follows; rest = rest-follows }
