use Rattle.std.proofs.Common.{◌≡◌, true, take}
use Rattle.asp_model.specs.Holding.{all_hold}
use Rattle.asp_print.proofs.holding.all_hold.Given as goal

abbrev pub invariant-loop-literal : goal.invariant-loop-literal
invariant-loop-literal g l = all_hold (g.A.Answer.set l.answer) (take l.literal-index l.literals) ≡ true
