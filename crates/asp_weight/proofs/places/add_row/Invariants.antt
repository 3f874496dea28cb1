use Rattle.std.proofs.Common.{◌≡◌, take}
use Rattle.asp_weight.specs.Placed.{bare, put_row}
use Rattle.asp_weight.proofs.places.add_row.Given as goal

abbrev pub invariant-loop-item : goal.invariant-loop-item
invariant-loop-item l = bare l.places ≡ put_row l.body (bare l.initial.places) (take l.item-index l.row)
