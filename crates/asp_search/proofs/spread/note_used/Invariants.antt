use Rattle.std.proofs.Common.{◌≡◌}
use Rattle.asp_search.proofs.spread.note_used.Given as goal

abbrev pub invariant-loop-lit : goal.invariant-loop-lit
invariant-loop-lit g l = l.state ≡ l.fn.state
