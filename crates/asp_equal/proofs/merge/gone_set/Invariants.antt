use Rattle.std.proofs.Common.{◌≡◌, take}
use Rattle.asp_equal.specs.Merged.{gone}
use Rattle.asp_equal.proofs.merge.gone_set.Given as goal

abbrev pub invariant-loop-atom : goal.invariant-loop-atom
invariant-loop-atom l = l.atoms.items ≡ gone (take l.atom-index l.copies)
