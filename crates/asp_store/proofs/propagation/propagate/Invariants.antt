use Rattle.std.proofs.Common.{◌≡◌, ◌+◌, ◌-◌}
use Rattle.asp_store.specs.Fitting.{Extends}
use Rattle.asp_store.specs.Sounding.{IsSound, AreSettled}
use Rattle.asp_store.proofs.propagation.propagate.Given as goal

abbrev pub invariant-entries : goal.invariant-entries
invariant-entries l = record {
  sound : IsSound l.slots l.watches l.trail;
  settled : AreSettled l.slots l.watches.rows l.trail.entries;
  same : l.trail ≡ record l.fn.trail { entries = l.trail.entries; seen = l.trail.seen };
  extends : Extends l.slots l.fn.trail.entries l.trail.entries;
}

abbrev pub decreases-entries : goal.decreases-entries
decreases-entries l = l.trail.vars + 1 - l.trail.seen
