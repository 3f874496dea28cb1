use Rattle.std.proofs.Common.{take}
use Rattle.asp_checker.specs.Assuming.{AreHeld}
use Rattle.asp_checker.specs.Chasing.{IsTrailedAlike}
use Rattle.asp_checker.proofs.confirm.assume_all.Given as goal

abbrev pub invariant-loop-lit : goal.invariant-loop-lit
invariant-loop-lit l = record {
  held : AreHeld l.initial.values l.values (take l.lit-index l.lits) l.lits;
  trailed : IsTrailedAlike l.initial.values l.values l.initial.trail.items l.trail.items;
}
