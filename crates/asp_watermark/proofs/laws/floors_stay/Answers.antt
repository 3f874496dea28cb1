use Rattle.asp_watermark.proofs.FloorLaws.{IsFloor-happens, IsFloor-run, IsLow-run, passed-run}
use Rattle.asp_watermark.proofs.laws.floors_stay.Goals as goal

pub returns : goal.returns
returns c = record { step = IsFloor-happens; run = IsFloor-run; low = IsLow-run; passed = passed-run }
