use Rattle.std.proofs.Common.{◌≡◌, ◌++◌, length}
use Rattle.std.specs.Vec.Iter.{into_iter_items, into_iter_len}
use Rattle.asp_state.specs.SearchStates.{AddsForever}
use Rattle.asp_state.proofs.completed.keep_all.Given as goal

abbrev pub invariant-loop-nogood : goal.invariant-loop-nogood
invariant-loop-nogood g l = record {
  items : l.yielded ++ into_iter_items l.nogood-iterator ≡ into_iter_items l.initial.nogood-iterator;
  same : l.engine ≡ record l.fn.engine { slots = l.engine.slots };
  adds : AddsForever l.yielded l.fn.engine.slots l.engine.slots;
  len : into_iter_len l.nogood-iterator ≡ length (into_iter_items l.nogood-iterator);
}
