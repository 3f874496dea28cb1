use Rattle.std.proofs.Common.{◌≡◌, ℕ, ◌<◌, ◌≤◌, not, filter, take, length, slice_index}
use Rattle.asp_model.specs.Sets.{has}
use Rattle.asp_model.specs.Models.{atoms_of}
use Rattle.asp_found.specs.Marks.{shown}
use Rattle.asp_found.proofs.marks.underived.Given as goal

abbrev pub invariant-loop-atom : goal.invariant-loop-atom
invariant-loop-atom l =
    (l.rest.items ≡ filter (λ a. not (has (shown l.compiled l.derived) a)) (take l.atom-index l.interp))
    × ((l.place ≤ length (atoms_of l.compiled))
    × (l.atom-index < length l.interp → (k : ℕ) → k < l.place → slice_index (atoms_of l.compiled) k < slice_index l.interp l.atom-index))
