use Rattle.asp_stable.specs.Founding.{AreDerived}
use Rattle.asp_stable.proofs.derive.begin.Given as goal

abbrev pub invariant-loop-body : goal.invariant-loop-body
invariant-loop-body l = AreDerived l.by.compiled.now l.by.assign.now l.marks
