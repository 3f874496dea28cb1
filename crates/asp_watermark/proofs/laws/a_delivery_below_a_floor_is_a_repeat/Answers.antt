use Rattle.asp_watermark.proofs.FloorLaws.{below-delivered}
use Rattle.asp_watermark.proofs.laws.a_delivery_below_a_floor_is_a_repeat.Goals as goal

pub returns : goal.returns
returns c = λ b floor s S is none low guard below. below-delivered b floor S is none low guard.1 guard.0 below
