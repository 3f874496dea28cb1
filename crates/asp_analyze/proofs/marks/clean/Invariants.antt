use Rattle.std.proofs.Common.{take}
use Rattle.asp_analyze.specs.Marks.{Cleaned}
use Rattle.asp_analyze.proofs.marks.clean.Given as goal

abbrev pub invariant-loop-lit : goal.invariant-loop-lit
invariant-loop-lit l = Cleaned l.initial.marks l.marks (take l.lit-index l.lits)
