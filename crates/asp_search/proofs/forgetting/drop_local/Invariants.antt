use Rattle.std.proofs.Common.{◌≡◌, ◌<◌, ◌≤◌, ℕ, length}
use Rattle.asp_store.specs.Keeping.{kept_at, unless_local}
use Rattle.asp_search.proofs.forgetting.drop_local.Given as goal

abbrev pub invariant-loop-id : goal.invariant-loop-id
invariant-loop-id g l = record {
  same : l.state ≡ record l.fn.state { slots = l.state.slots };
  count : length l.state.slots ≡ length l.fn.state.slots;
  done : (j : ℕ) → j < l.id → kept_at l.state.slots j ≡ unless_local (kept_at l.fn.state.slots j);
  rest : (j : ℕ) → l.id ≤ j → kept_at l.state.slots j ≡ kept_at l.fn.state.slots j;
}
