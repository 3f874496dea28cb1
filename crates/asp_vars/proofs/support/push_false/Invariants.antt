use Rattle.std.proofs.Common.{◌≡◌, ◌++◌, map, take}
use Rattle.asp_vars.specs.Literals.{complement}
use Rattle.asp_vars.specs.Numbering.{form_at, literal_of_form}
use Rattle.asp_vars.proofs.support.push_false.Given as goal

abbrev pub invariant-loop-number : goal.invariant-loop-number
invariant-loop-number l = l.lits ≡ l.initial.lits ++ map (λ n. complement (literal_of_form l.compiled (form_at l.compiled n))) (take l.number-index l.numbers)
