use Rattle.std.proofs.Common.{◌≡◌}
use Rattle.asp_search.proofs.covering.prefer_shown.Given as goal

abbrev pub invariant-loop-atom : goal.invariant-loop-atom
invariant-loop-atom g l = l.state ≡ l.fn.state
