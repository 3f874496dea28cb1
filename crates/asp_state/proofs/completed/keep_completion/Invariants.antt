use Rattle.std.proofs.Common.{◌≡◌, ◌-◌, ◌≤◌, fold, length, map}
use Rattle.asp_complete.specs.Listed.{groups, nogoods_between, pure}
use Rattle.asp_state.specs.SearchStates.{AddsForever, with_places}
use Rattle.asp_state.proofs.completed.keep_completion.Given as goal

abbrev pub invariant-loop-from : goal.invariant-loop-from
invariant-loop-from g l = record {
  within : l.from ≤ length (groups l.compiled);
  same : l.engine ≡ record l.initial.engine { slots = l.engine.slots };
  adds : AddsForever (map pure (nogoods_between l.compiled 0 l.from)) l.initial.engine.slots l.engine.slots;
  order : l.order ≡ fold with_places l.initial.order (nogoods_between l.compiled 0 l.from);
}

abbrev pub decreases-loop-from : goal.decreases-loop-from
decreases-loop-from g l = l.count - l.from
