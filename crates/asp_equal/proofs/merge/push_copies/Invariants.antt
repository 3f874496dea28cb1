use Rattle.std.proofs.Common.{◌≡◌, ◌++◌, take}
use Rattle.asp_equal.specs.Merged.{back}
use Rattle.asp_equal.proofs.merge.push_copies.Given as goal

abbrev pub invariant-loop-atom : goal.invariant-loop-atom
invariant-loop-atom l = l.atoms.items ≡ l.initial.atoms.items ++ back (take l.atom-index l.copies) l.set
