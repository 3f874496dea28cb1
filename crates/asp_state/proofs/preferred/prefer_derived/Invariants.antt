use Rattle.std.proofs.Common.{◌≡◌}
use Rattle.asp_state.proofs.preferred.prefer_derived.Given as goal

abbrev pub invariant-loop-body : goal.invariant-loop-body
invariant-loop-body l = l.order ≡ l.initial.order
