use Rattle.asp_loop.proofs.WeighLaws.{Choosing}
use Rattle.asp_loop.proofs.weighing.choose.Given as goal

abbrev pub invariant-loop-i : goal.invariant-loop-i
invariant-loop-i l = Choosing l.assign l.vars l.lits l.weights l.slack l.initial.part l.part l.left l.i
