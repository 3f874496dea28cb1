use Rattle.std.proofs.Common.{◌≡◌, ◌≤◌, filter, length, take}
use Rattle.asp_model.specs.Models.{atoms_of}
use Rattle.asp_search.proofs.TrueLaws.{is_held}
use Rattle.asp_search.proofs.faults.gather.Given as goal

abbrev pub invariant-loop-i : goal.invariant-loop-i
invariant-loop-i l = record {
  few : l.len ≤ l.i;
  room : length l.held ≡ length (atoms_of l.compiled);
  is : take l.len l.held ≡ filter (is_held l.compiled l.assign) (take l.i (atoms_of l.compiled));
}
