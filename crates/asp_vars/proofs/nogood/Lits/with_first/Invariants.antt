use Rattle.std.proofs.Common.{◌≡◌, ◌∷◌, take}
use Rattle.asp_vars.proofs.nogood.Lits.with_first.Given as goal

abbrev pub invariant-loop-other : goal.invariant-loop-other
invariant-loop-other l = l.lits ≡ l.fn.first ∷ take l.other-index l.others
