use Rattle.std.proofs.Common.{◌≡◌, ◌-◌}
use Rattle.asp_store.specs.Fitting.{Extends}
use Rattle.asp_store.specs.Pending.{IsLooking}
use Rattle.asp_store.proofs.pending.look_at_pending.Given as goal

abbrev pub invariant-places : goal.invariant-places
invariant-places l = record {
  looking : IsLooking l.slots l.watches l.trail l.i;
  same : l.trail ≡ record l.fn.trail { entries = l.trail.entries };
  extends : Extends l.slots l.fn.trail.entries l.trail.entries;
}

abbrev pub decreases-places : goal.decreases-places
decreases-places l = l.watches.apart.last - l.i
