use Rattle.std.proofs.Common.{◌≡◌, take, filter}
use Rattle.asp_analyze.specs.Marks.{mark_of, is_open}
use Rattle.asp_analyze.proofs.learn.staying.Given as goal

abbrev pub invariant-loop-lit : goal.invariant-loop-lit
invariant-loop-lit l = l.lits ≡ filter (λ k. is_open (mark_of l.marks.marks k.var)) (take l.lit-index l.marked)
