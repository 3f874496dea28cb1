use Rattle.asp_weight.specs.Kept.{ArePassed}
use Rattle.asp_weight.proofs.look.heaviest_open.Given as goal

abbrev pub invariant-loop-i : goal.invariant-loop-i
invariant-loop-i l = ArePassed l.values l.row l.i
