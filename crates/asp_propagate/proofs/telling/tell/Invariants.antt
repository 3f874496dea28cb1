use Rattle.std.proofs.Common.{◌≡◌}
use Rattle.asp_propagate.specs.Propagating.{WasTold}
use Rattle.asp_propagate.proofs.telling.tell.Given as goal

abbrev pub invariant-loop-i : goal.invariant-loop-i
invariant-loop-i g l = record {
  told : WasTold (g.P.Propagator.told l.propagator) l.trail l.i;
  program : (g.P.Propagator.told l.propagator).program ≡ (g.P.Propagator.told l.fn.propagator).program;
  bound : g.P.Propagator.bound l.propagator ≡ g.P.Propagator.bound l.fn.propagator;
}
