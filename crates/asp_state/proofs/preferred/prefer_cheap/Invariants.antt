use Rattle.std.proofs.Common.{◌≡◌}
use Rattle.asp_state.proofs.preferred.prefer_cheap.Given as goal

abbrev pub invariant-loop-statement : goal.invariant-loop-statement
invariant-loop-statement l = l.order ≡ l.initial.order
