use Rattle.std.proofs.Common.{◌≡◌, flat_map, take}
use Rattle.asp_equal.specs.Merged.{merged_rule}
use Rattle.asp_equal.specs.Tables.{sent}
use Rattle.asp_equal.proofs.rename.merged_rules.Given as goal

abbrev pub invariant-loop-i : goal.invariant-loop-i
invariant-loop-i l = l.merged ≡ flat_map (merged_rule (sent l.table)) (take l.i l.fn.rules)
