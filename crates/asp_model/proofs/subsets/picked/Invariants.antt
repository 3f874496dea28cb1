use Rattle.std.proofs.Common.{◌≡◌, take}
use Rattle.asp_model.specs.Walks.{picked}
use Rattle.asp_model.proofs.subsets.picked.Given as goal

abbrev pub invariant-loop-i : goal.invariant-loop-i
invariant-loop-i l = l.list.items ≡ picked (take l.i l.atoms) (take l.i l.marks)
