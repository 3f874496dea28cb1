use Rattle.asp_stable.specs.Founding.{AreDerived}
use Rattle.asp_stable.proofs.derive.propagate.Given as goal

abbrev pub invariant-loop-next : goal.invariant-loop-next
invariant-loop-next l = AreDerived l.compiled l.assign l.marks
