use Rattle.asp_stable.proofs.FoundingLaws.{Listing}
use Rattle.asp_stable.proofs.checker.looping.Given as goal

abbrev pub invariant-loop-i : goal.invariant-loop-i
invariant-loop-i l = Listing l.compiled l.flat l.loops.items l.i
