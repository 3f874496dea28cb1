use Rattle.std.proofs.Common.{◌≡◌, ◌≤◌, ℕ, List, Option, vec_len, vec_capacity}
use Rattle.asp_vars.specs.declared.nogood.Nogood.{Nogood}
use Rattle.asp_store.specs.declared.stored_nogood.StoredNogood.{StoredNogood}
use Rattle.asp_search_laws.specs.Keeping.{AreBlocking}
use Rattle.asp_search.specs.Blocking.{Drops, Spares}
use Rattle.asp_search.proofs.blocking.drop_all.Given as goal

abbrev pub invariant-loop : goal.invariant-loop
invariant-loop g l = record {
  blocking_stand : AreBlocking l.state.slots l.blocking.items;
  same : l.state ≡ record l.fn.state { slots = l.state.slots };
  drops : (newest : Nogood) (id : ℕ) (first : List (Option StoredNogood)) → newest.lits ≡ l.lits →
      Drops newest id first l.fn.state.slots l.fn.blocking.items → Drops newest id first l.state.slots l.blocking.items;
  spares : (id : ℕ) (first : List (Option StoredNogood)) → Spares id first l.fn.state.slots l.fn.blocking.items → Spares id first l.state.slots l.blocking.items;
  len : vec_len l.blocking ≤ vec_len l.fn.blocking;
  room : vec_capacity l.blocking ≡ vec_capacity l.fn.blocking;
}

abbrev pub decreases-loop : goal.decreases-loop
decreases-loop g l = vec_len l.blocking
