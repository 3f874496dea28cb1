use Rattle.asp_stream.proofs.LowLaws.{Gathers, IsSureAtom}
use Rattle.asp_stream.proofs.low.low.Given as goal

-- what stands in the set is sure, and stands among the atoms passed
abbrev pub invariant-loop-atom : goal.invariant-loop-atom
invariant-loop-atom g l = Gathers (IsSureAtom l.search l.more) l.atoms l.atom-index l.set.items
