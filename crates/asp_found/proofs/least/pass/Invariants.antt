use Rattle.asp_found.specs.Derivings.{IsDeriving}
use Rattle.asp_found.proofs.least.pass.Given as goal

abbrev pub invariant-loop-body : goal.invariant-loop-body
invariant-loop-body l = IsDeriving l.compiled l.set l.marks l.found.items
