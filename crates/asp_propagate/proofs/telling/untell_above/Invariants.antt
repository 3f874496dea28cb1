use Rattle.std.proofs.Common.{◌≡◌, ℕ, ◌<◌, ◌≤◌, get_or}
use Rattle.asp_trail.specs.declared.trail.Entry.{Entry}
use Rattle.asp_propagate.specs.Propagating.{WasTold}
use Rattle.asp_propagate.proofs.telling.untell_above.Given as goal

abbrev pub invariant-loop-left : goal.invariant-loop-left
invariant-loop-left g l = record {
  told : WasTold (g.P.Propagator.told l.propagator) l.trail l.left;
  program : (g.P.Propagator.told l.propagator).program ≡ (g.P.Propagator.told l.fn.propagator).program;
  above : (i : ℕ) (d : Entry) → l.left ≤ i → i < l.fn.told → l.level < (get_or l.trail.entries i d).level;
  bound : g.P.Propagator.bound l.propagator ≡ g.P.Propagator.bound l.fn.propagator;
}

abbrev pub decreases-loop-left : goal.decreases-loop-left
decreases-loop-left g l = l.left
