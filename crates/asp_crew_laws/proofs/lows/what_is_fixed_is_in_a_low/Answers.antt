use Rattle.std.proofs.Common.{◌≡◌, Bool, true, false, refl, sym, ap, ◌∙◌}
use Rattle.std.specs.Bool.{beq}
use Rattle.std.proofs.lemmas.Bool.{false≢true, and_parts}
use Rattle.asp_model.specs.Consequences.{used_up}
use Rattle.asp_model.specs.Holding.{all_hold}
use Rattle.asp_model.specs.Models.{is_stable}
use Rattle.asp_vars.specs.Entailment.{is_done}
use Rattle.asp_vars.proofs.CompletionLaws.{atom-true}
use Rattle.asp_core.specs.Boards.{is_excused, sought, wanted}
use Rattle.asp_watermark.proofs.FloorLaws.{IsLow-with_atom}
use Rattle.asp_crew_laws.proofs.lows.what_is_fixed_is_in_a_low.Goals as goal

-- what follows from one test is false where the other is
neither : (x y : Bool) → (x ≡ true → y ≡ true) → y ≡ false → x ≡ false
neither true y h e = absurd (false≢true (sym e ∙ h refl))
neither false y h e = refl

pub returns : goal.returns
returns c = λ b leaf a known bound low agrees is atom fixed.
    IsLow-with_atom b leaf a low is (λ S answer hit fresh.
    let parts = and_parts (is_stable b.task.program S) (all_hold S (wanted b.task)) answer in
    let sought_still = neither (is_done b.task.program (used_up (sought b.task.goal) b.task.program known) bound S) (is_excused b S) (agrees.excused S) fresh in
    sym (atom-true b.task.program S a atom) ∙ ap (λ x. beq x true) (fixed S parts.0 hit sought_still))
