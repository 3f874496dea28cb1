use Rattle.std.proofs.Common.{◌≡◌, false, take, Some}
use Rattle.std.specs.List.{AllByRecursion}
use Rattle.asp_watermark.specs.Floors.{is_below}
use Rattle.asp_stream.specs.declared.part.Part.{Part}
use Rattle.asp_stream.proofs.part.none_before.Given as goal

-- no part's low so far comes before the row
abbrev pub invariant-loop-part : goal.invariant-loop-part
invariant-loop-part l = AllByRecursion (λ (p : Part). is_below (Some l.row.set) p.low.set ≡ false) (take l.part-index l.parts)
