use Rattle.asp_watermark.proofs.FloorLaws.{IsFloor-start, IsLow-cube, IsLow-first, IsLow-nothing, IsLow-second, IsLow-with_atom}
use Rattle.asp_watermark.proofs.laws.lows_are_found.Goals as goal

pub returns : goal.returns
returns c = record {
  nothing = IsLow-nothing;
  start = IsFloor-start;
  cube = IsLow-cube;
  known = IsLow-with_atom;
  first = IsLow-first;
  second = IsLow-second;
}
