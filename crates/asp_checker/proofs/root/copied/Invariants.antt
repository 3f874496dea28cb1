use Rattle.std.proofs.Common.{◌≡◌, ◌+◌, length}
use Rattle.asp_vars.specs.Numbering.{var_count}
use Rattle.asp_checker.specs.Steps.{AreWithin}
use Rattle.asp_checker.proofs.root.copied.Given as goal

abbrev pub invariant-loop-at : goal.invariant-loop-at
invariant-loop-at l = record {
  size : length l.values ≡ var_count l.compiled + 1;
  copied : AreWithin l.values l.known;
}
