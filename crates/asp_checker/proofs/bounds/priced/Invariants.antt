use Rattle.std.proofs.Common.{◌≡◌}
use Rattle.asp_checker.specs.Blocks.{priced_to}
use Rattle.asp_checker.proofs.bounds.priced.Given as goal

abbrev pub invariant-loop-at : goal.invariant-loop-at
invariant-loop-at l = l.list.items ≡ priced_to l.levels l.at
