use Rattle.asp_watermark.proofs.PartLaws.{text-append, text-front}
use Rattle.asp_watermark.proofs.laws.texts_follow.Goals as goal

pub returns : goal.returns
returns c = record { front = text-front; goes_on = text-append }
