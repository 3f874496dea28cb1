use Rattle.std.proofs.Common.{◌≡◌, ◌-◌, ◌≤◌, length}
use Rattle.asp_vars.specs.Codes.{code_of}
use Rattle.asp_trail.specs.Entries.{level}
use Rattle.asp_store.specs.Fitting.{Extends}
use Rattle.asp_store.specs.Walking.{back, IsWalking}
use Rattle.asp_store.proofs.top_walks.walk_list.Given as goal

abbrev pub invariant-places : goal.invariant-places
invariant-places l = record {
  walking : IsWalking l.slots (back l.watches (code_of l.front.lit) l.list.items) l.trail l.front l.i;
  within : l.i ≤ length l.list.items;
  level_is : level l.trail.entries ≡ l.front.level;
  same : l.trail ≡ record l.fn.trail { entries = l.trail.entries };
  extends : Extends l.slots l.fn.trail.entries l.trail.entries;
}

abbrev pub decreases-places : goal.decreases-places
decreases-places l = length l.list.items - l.i
