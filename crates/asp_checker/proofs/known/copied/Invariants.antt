use Rattle.std.proofs.Common.{◌≡◌, take, map}
use Rattle.asp_vars.specs.declared.nogood.Nogood.{Nogood}
use Rattle.asp_checker.proofs.known.copied.Given as goal

abbrev pub invariant-loop-nogood : goal.invariant-loop-nogood
invariant-loop-nogood l = l.rows.items ≡ map (λ (n : Nogood). n.lits) (take l.nogood-index l.nogoods)
