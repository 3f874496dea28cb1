use Rattle.std.proofs.Common.{◌≡◌, map, take}
use Rattle.asp_equal.specs.Tables.{sent}
use Rattle.asp_equal.proofs.rename.renamed_atoms.Given as goal

abbrev pub invariant-loop-atom : goal.invariant-loop-atom
invariant-loop-atom l = l.others.items ≡ map (sent l.table) (take l.atom-index l.atoms)
