use Rattle.std.proofs.Common.{◌≡◌, length, take}
use Rattle.asp_checker.specs.Sweeps.{IsSweptSoFar}
use Rattle.asp_checker.proofs.sweep.sweep.Given as goal

abbrev pub invariant-loop-row : goal.invariant-loop-row
invariant-loop-row l = record {
  size : length l.values ≡ length l.initial.values;
  so_far : IsSweptSoFar l.initial.values l.values l.rows (take l.row-index l.rows) l.came_to;
}
