use Rattle.std.proofs.Common.{[], ◌∷◌, ◌++◌, codes, decimal, flat_map, ap, sym, ◌∙◌, Some}
use Rattle.asp_model.specs.Sets.{Atoms}
use Rattle.asp_model.specs.Texts.{consequences_line}
use Rattle.asp_buffer.proofs.OutLaws.{puts_then, puts_fails, puts_same}
use Rattle.asp_print.proofs.text.put_known.Goals as goal

pub returns-in_err-put-in-Some : goal.returns-in_err-put-in-Some
returns-in_err-put-in-Some g c =
    puts_same _ _ _ _ _ (puts_fails _ _ _ _ _ (codes "Consequences:") (flat_map (λ a. 32 ∷ decimal a) c.in-Some.known ++ 10 ∷ []) c.in_err-put-in-Some.ensures c.from_residual.ensures.1)
    (ap consequences_line (sym c.in-Some.is))

pub returns-in_err-put_atoms-in-Some : goal.returns-in_err-put_atoms-in-Some
returns-in_err-put_atoms-in-Some g c =
    puts_same _ _ _ _ _ (puts_fails _ _ _ _ _ (codes "Consequences:" ++ flat_map (λ a. 32 ∷ decimal a) c.as_slice.result.now) (10 ∷ [])
    (puts_then _ _ _ _ _ _ _ c.in_ok-put-in-Some.ensures c.in_err-put_atoms-in-Some.ensures)
    c.from_residual-in_err-put_atoms-in-Some.ensures.1)
    (ap (λ (A : Atoms). consequences_line (Some A)) c.as_slice.ensures.value ∙ ap consequences_line (sym c.in-Some.is))

pub returns-in_ok-put_atoms-in-Some : goal.returns-in_ok-put_atoms-in-Some
returns-in_ok-put_atoms-in-Some g c =
    puts_same _ _ _ _ _ (puts_then _ _ _ _ _ (codes "Consequences:" ++ flat_map (λ a. 32 ∷ decimal a) c.as_slice.result.now) (10 ∷ [])
    (puts_then _ _ _ _ _ _ _ c.in_ok-put-in-Some.ensures c.in_ok-put_atoms-in-Some.ensures) c.put-in-Some-2.ensures)
    (ap (λ (A : Atoms). consequences_line (Some A)) c.as_slice.ensures.value ∙ ap consequences_line (sym c.in-Some.is))
