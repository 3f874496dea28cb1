use Rattle.std.proofs.Common.{◌≡◌, ◌+◌, ◌-◌, length}
use Rattle.asp_trail.specs.Entries.{assignment}
use Rattle.asp_propagate.specs.Propagating.{IsFollowed, GoesOn, AreAtFixpoint}
use Rattle.asp_propagate.proofs.rounds.propagate.Given as goal

abbrev pub invariant-asked : goal.invariant-asked
invariant-asked g l = record {
  followed : IsFollowed (λ p. g.P.Propagator.explains p (g.P.Propagator.bound l.propagator)) (g.P.Propagator.told l.propagator) l.store l.trail l.told;
  goes : GoesOn (g.P.Propagator.gives (g.P.Propagator.told l.fn.propagator).program (g.P.Propagator.bound l.fn.propagator)) (g.P.Propagator.told l.fn.propagator) (g.P.Propagator.told l.propagator)
      (g.P.Propagator.bound l.fn.propagator) (g.P.Propagator.bound l.propagator) l.fn.store.slots l.store.slots l.fn.trail.entries l.trail.entries;
  all : l.told ≡ length l.trail.entries;
  fixpoint : AreAtFixpoint l.store.slots (assignment l.trail.vars l.trail.entries);
}

abbrev pub decreases-asked : goal.decreases-asked
decreases-asked g l = l.trail.vars + 1 - length l.trail.entries
