use Rattle.std.proofs.Common.{take}
use Rattle.asp_checker.specs.Looks.{IsSeen}
use Rattle.asp_checker.proofs.nogoods.look_at.Given as goal

abbrev pub invariant-loop-lit : goal.invariant-loop-lit
invariant-loop-lit l = IsSeen l.values (take l.lit-index l.lits) l.look
