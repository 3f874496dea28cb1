use Rattle.asp_stable.specs.Founding.{AreDerived}
use Rattle.asp_stable.proofs.derive.follow.Given as goal

abbrev pub invariant-loop-occurrence : goal.invariant-loop-occurrence
invariant-loop-occurrence l = AreDerived l.compiled l.assign l.marks
