use Rattle.std.proofs.Common.{◌≡◌, ℕ, ◌<◌, ◌≤◌, true, length, slice_index, take}
use Rattle.std.specs.List.{list_all}
use Rattle.asp_model.specs.Sets.{has}
use Rattle.asp_checker.proofs.lines.are_atoms.Given as goal

abbrev pub invariant-loop-atom : goal.invariant-loop-atom
invariant-loop-atom l = record {
  stand : list_all (has l.atoms) (take l.atom-index l.own) ≡ true;
  within : l.place ≤ length l.atoms;
  below : l.atom-index < length l.own → (k : ℕ) → k < l.place → slice_index l.atoms k < slice_index l.own l.atom-index;
}
