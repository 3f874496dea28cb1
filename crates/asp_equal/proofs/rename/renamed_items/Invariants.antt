use Rattle.std.proofs.Common.{◌≡◌, map, take}
use Rattle.asp_equal.specs.Merged.{renamed_item}
use Rattle.asp_equal.specs.Tables.{sent}
use Rattle.asp_equal.proofs.rename.renamed_items.Given as goal

abbrev pub invariant-loop-item : goal.invariant-loop-item
invariant-loop-item l = l.others.items ≡ map (renamed_item (sent l.table)) (take l.item-index l.items)
