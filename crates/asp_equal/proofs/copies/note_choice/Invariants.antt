use Rattle.std.proofs.Common.{◌≡◌, ℕ, ◌<◌, cond, length, get_or, take}
use Rattle.asp_model.specs.Sets.{has}
use Rattle.asp_equal.proofs.copies.note_choice.Given as goal

abbrev pub invariant-loop-atom : goal.invariant-loop-atom
invariant-loop-atom l = (a : ℕ) → a < length l.known → get_or l.known a 0 ≡ cond (has (take l.atom-index l.atoms) a) a (get_or l.initial.known a 0)
