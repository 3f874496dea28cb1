use Rattle.std.proofs.Common.{take}
use Rattle.asp_equal.specs.Tables.{AreSources}
use Rattle.asp_equal.proofs.copies.note_rules.Given as goal

abbrev pub invariant-loop-i : goal.invariant-loop-i
invariant-loop-i l = AreSources (take l.i l.rules) l.known
