use Rattle.std.proofs.Common.{◌≡◌, map, take}
use Rattle.asp_equal.specs.Merged.{renamed}
use Rattle.asp_equal.specs.Tables.{sent}
use Rattle.asp_equal.proofs.rename.renamed_literals.Given as goal

abbrev pub invariant-loop-literal : goal.invariant-loop-literal
invariant-loop-literal l = l.others.items ≡ map (renamed (sent l.table)) (take l.literal-index l.literals)
