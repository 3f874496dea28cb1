use Rattle.std.proofs.Common.{◌≡◌, take}
use Rattle.asp_read.proofs.asked.copy_of_statements.Given as goal

abbrev pub invariant-loop-statement : goal.invariant-loop-statement
invariant-loop-statement l = l.copy.items ≡ take l.statement-index l.statements
