use Rattle.std.proofs.Common.{take}
use Rattle.asp_stable.specs.Ranks.{AreUpTo}
use Rattle.asp_stable.proofs.ranks.highest.Given as goal

abbrev pub invariant-loop-lit : goal.invariant-loop-lit
invariant-loop-lit l = AreUpTo l.ranks l.top (take l.lit-index l.lits)
