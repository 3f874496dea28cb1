use Rattle.std.proofs.Common.{◌≡◌, map, take}
use Rattle.asp_equal.specs.Merged.{renamed_minimize}
use Rattle.asp_equal.specs.Tables.{sent}
use Rattle.asp_equal.proofs.rename.renamed_statements.Given as goal

abbrev pub invariant-loop-statement : goal.invariant-loop-statement
invariant-loop-statement l = l.others.items ≡ map (renamed_minimize (sent l.table)) (take l.statement-index l.fn.statements)
