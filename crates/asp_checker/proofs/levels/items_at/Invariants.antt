use Rattle.std.proofs.Common.{◌≡◌, take}
use Rattle.asp_bound.specs.Optimism.{items_at}
use Rattle.asp_checker.proofs.levels.items_at.Given as goal

abbrev pub invariant-loop-statement : goal.invariant-loop-statement
invariant-loop-statement l = l.items.items ≡ items_at (take l.statement-index l.statements) l.priority
