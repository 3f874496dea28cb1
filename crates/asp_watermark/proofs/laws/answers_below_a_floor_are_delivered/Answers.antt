use Rattle.asp_watermark.proofs.FloorLaws.{below-delivered, passed-listed}
use Rattle.asp_watermark.proofs.laws.answers_below_a_floor_are_delivered.Goals as goal

pub returns : goal.returns
returns c = record { each = below-delivered; all = passed-listed }
