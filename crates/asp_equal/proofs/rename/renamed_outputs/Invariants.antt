use Rattle.std.proofs.Common.{◌≡◌, map, take}
use Rattle.asp_equal.specs.Merged.{renamed_output}
use Rattle.asp_equal.specs.Tables.{sent}
use Rattle.asp_equal.proofs.rename.renamed_outputs.Given as goal

abbrev pub invariant-loop-i : goal.invariant-loop-i
invariant-loop-i l = l.others ≡ map (renamed_output (sent l.table)) (take l.i l.fn.outputs)
