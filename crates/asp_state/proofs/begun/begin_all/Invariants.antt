use Rattle.std.proofs.Common.{◌≡◌, fold, take}
use Rattle.asp_order.specs.Heaps.{Ranking}
use Rattle.asp_vars.specs.declared.nogood.Nogood.{Nogood}
use Rattle.asp_state.specs.SearchStates.{with_places}
use Rattle.asp_state.proofs.begun.begin_all.Given as goal

abbrev pub invariant-loop-nogood : goal.invariant-loop-nogood
invariant-loop-nogood l = l.order ≡ fold (λ (r : Ranking) (n : Nogood). with_places r n.lits) l.initial.order (take l.nogood-index l.nogoods)
