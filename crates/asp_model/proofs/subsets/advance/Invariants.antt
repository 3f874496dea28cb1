use Rattle.asp_model.proofs.WalkLaws.{IsCleared}
use Rattle.asp_model.proofs.subsets.advance.Given as goal

abbrev pub invariant-loop-place : goal.invariant-loop-place
invariant-loop-place l = IsCleared l.initial.marks l.marks l.place

abbrev pub decreases-loop-place : goal.decreases-loop-place
decreases-loop-place l = l.place
