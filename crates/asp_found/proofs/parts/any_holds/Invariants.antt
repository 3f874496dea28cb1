use Rattle.std.proofs.Common.{◌≡◌, false, take}
use Rattle.std.specs.List.{list_any}
use Rattle.asp_vars.specs.Literals.{is_true}
use Rattle.asp_vars.specs.Numbering.{form_at, literal_of_form}
use Rattle.asp_found.proofs.parts.any_holds.Given as goal

abbrev pub invariant-loop-number : goal.invariant-loop-number
invariant-loop-number l = list_any (λ n. is_true l.truths (literal_of_form l.compiled (form_at l.compiled n))) (take l.number-index l.numbers) ≡ false
