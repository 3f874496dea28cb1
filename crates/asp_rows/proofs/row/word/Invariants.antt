use Rattle.std.proofs.Common.{◌≡◌, ℕ, ◌-◌, ◌<◌, ◌≤◌, take, map, length, slice_index}
use Rattle.asp_model.specs.Sets.{has}
use Rattle.asp_rows.specs.Bits.{value}
use Rattle.asp_rows.proofs.row.word.Given as goal

abbrev pub invariant-loop-at : goal.invariant-loop-at
invariant-loop-at l = record {
  from : l.from ≤ length l.atoms;
  next : l.next ≤ length l.set;
  is : l.word ≡ value (map (has l.set) (take l.from l.atoms));
  low : l.next < length l.set → (k : ℕ) → k < l.from → slice_index l.atoms k < slice_index l.set l.next;
  high : l.from < length l.atoms → (j : ℕ) → j < l.next → slice_index l.set j < slice_index l.atoms l.from;
}

abbrev pub decreases-loop-at : goal.decreases-loop-at
decreases-loop-at l = length l.set - l.next
