use Rattle.std.proofs.Common.{◌≡◌, map, take}
use Rattle.asp_equal.proofs.copies.named_set.Given as goal

abbrev pub invariant-loop-external : goal.invariant-loop-external
invariant-loop-external l = l.atoms.items ≡ map (λ e. e.atom) (take l.external-index l.externals)
