use Rattle.std.proofs.Common.{◌≡◌, take}
use Rattle.std.specs.Prelude.{fold}
use Rattle.asp_found.specs.Marks.{derive}
use Rattle.asp_found.proofs.least.derive_all.Given as goal

abbrev pub invariant-loop-var : goal.invariant-loop-var
invariant-loop-var l =
    (l.marks, l.found.items) ≡ fold (derive l.set) (l.initial.marks, l.initial.found.items) (take l.var-index l.heads)
