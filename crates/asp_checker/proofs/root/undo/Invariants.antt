use Rattle.std.proofs.Common.{◌≡◌, length, take}
use Rattle.asp_checker.specs.Steps.{AreWithin}
use Rattle.asp_checker.specs.Chasing.{AreTakenBack}
use Rattle.asp_checker.proofs.root.undo.Given as goal

abbrev pub invariant-loop-lit : goal.invariant-loop-lit
invariant-loop-lit l = record {
  size : length l.values ≡ length l.initial.values;
  within : AreWithin l.values l.initial.values;
  none : AreTakenBack l.values (take l.lit-index l.trail);
}
