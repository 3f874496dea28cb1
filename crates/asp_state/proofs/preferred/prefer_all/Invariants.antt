use Rattle.std.proofs.Common.{◌≡◌}
use Rattle.asp_state.proofs.preferred.prefer_all.Given as goal

abbrev pub invariant-loop-item : goal.invariant-loop-item
invariant-loop-item l = l.order ≡ l.initial.order
