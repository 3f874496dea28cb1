use Rattle.std.proofs.Common.{◌≡◌, ◌≤◌, ◌+◌, ◌-◌, length}
use Rattle.asp_propagate.specs.Propagating.{IsFollowed, GoesOn}
use Rattle.asp_propagate.proofs.rounds.imply_more.Given as goal

abbrev pub invariant-implied : goal.invariant-implied
invariant-implied g l = record {
  followed : IsFollowed (λ p. g.P.Propagator.explains p (g.P.Propagator.bound l.propagator)) (g.P.Propagator.told l.propagator) l.store l.trail (length l.trail.entries);
  same : l.trail ≡ record l.fn.trail { entries = l.trail.entries };
  more : length l.fn.trail.entries ≤ length l.trail.entries;
  goes : GoesOn (g.P.Propagator.gives (g.P.Propagator.told l.fn.propagator).program (g.P.Propagator.bound l.fn.propagator)) (g.P.Propagator.told l.fn.propagator) (g.P.Propagator.told l.propagator)
      (g.P.Propagator.bound l.fn.propagator) (g.P.Propagator.bound l.propagator) l.store.slots l.store.slots l.fn.trail.entries l.trail.entries;
}

abbrev pub decreases-implied : goal.decreases-implied
decreases-implied g l = l.trail.vars + 1 - length l.trail.entries
