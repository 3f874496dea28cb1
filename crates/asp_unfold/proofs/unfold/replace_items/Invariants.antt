use Rattle.std.proofs.Common.{◌≡◌, ◌++◌, take, drop}
use Rattle.asp_unfold.specs.Tables.{table_items}
use Rattle.asp_unfold.proofs.unfold.replace_items.Given as goal

abbrev pub invariant-loop-item : goal.invariant-loop-item
invariant-loop-item l = l.items ≡ table_items l.table (take l.item-index l.fn.items) ++ drop l.item-index l.fn.items
