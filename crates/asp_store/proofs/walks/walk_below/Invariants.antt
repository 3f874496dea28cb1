use Rattle.std.proofs.Common.{◌≡◌, ◌-◌}
use Rattle.asp_vars.specs.Codes.{code_of}
use Rattle.asp_store.specs.Fitting.{Extends}
use Rattle.asp_store.specs.Lists.{size}
use Rattle.asp_store.specs.Walking.{IsWalking}
use Rattle.asp_store.proofs.walks.walk_below.Given as goal

abbrev pub invariant-places : goal.invariant-places
invariant-places l = record {
  walking : IsWalking l.slots l.watches l.trail l.front l.i;
  same : l.trail ≡ record l.fn.trail { entries = l.trail.entries };
  extends : Extends l.slots l.fn.trail.entries l.trail.entries;
}

abbrev pub decreases-places : goal.decreases-places
decreases-places l = size l.watches.lists (code_of l.front.lit) - l.i
