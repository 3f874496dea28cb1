use Rattle.asp_found.proofs.LeastLaws.{Sweeping}
use Rattle.asp_found.proofs.least.sweep.Given as goal

abbrev pub invariant-loop-body : goal.invariant-loop-body
invariant-loop-body l = Sweeping l.compiled l.set l.initial.found.items l.marks l.found.items l.body
