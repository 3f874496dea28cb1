use Rattle.std.proofs.Common.{◌≡◌, ◌<◌, ◌^◌, take}
use Rattle.asp_weight.specs.Rows.{total_of}
use Rattle.asp_weight.proofs.rows.total.Given as goal

abbrev pub invariant-loop-item : goal.invariant-loop-item
invariant-loop-item l = (l.total ≡ total_of (take l.item-index l.items)) × (l.total < 2 ^ 63)
