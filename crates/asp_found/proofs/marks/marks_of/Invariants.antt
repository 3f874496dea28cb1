use Rattle.std.proofs.Common.{◌≡◌, ℕ, ◌<◌, ◌≤◌, ◌∷◌, false, map, take, length, slice_index}
use Rattle.asp_model.specs.Sets.{has}
use Rattle.asp_model.specs.Models.{atoms_of}
use Rattle.asp_found.proofs.marks.marks_of.Given as goal

abbrev pub invariant-loop-atom : goal.invariant-loop-atom
invariant-loop-atom l =
    (l.marks.items ≡ false ∷ map (has l.interp) (take l.atom-index (atoms_of l.compiled)))
    × ((l.place ≤ length l.interp)
    × (l.atom-index < length (atoms_of l.compiled) → (k : ℕ) → k < l.place → slice_index l.interp k < slice_index (atoms_of l.compiled) l.atom-index))
