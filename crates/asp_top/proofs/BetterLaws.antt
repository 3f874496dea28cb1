-- What makes a set an answer that costs so much.
use Rattle.std.proofs.Common.{◌≡◌, ◌∙◌, ℕ, ◌+◌, ◌-◌, ◌<◌, Bool, true, false, not, List, refl, sym, ap, subst, ℤ, arith}
use Rattle.std.specs.Prelude.{Option, Result, Ok, Err, IfOk, IsTrue}
use Rattle.std.specs.Ordering.{int_eq}
use Rattle.std.specs.Cmp.Lexicographic.{pointwise}
use Rattle.std.proofs.lemmas.Bool.{false≢true}
use Rattle.asp_crew_laws.specs.Reports.{IsPriced}
use Rattle.asp_model.specs.declared.program.Program.{Program}
use Rattle.asp_model.specs.Costs.{cost}
use Rattle.asp_model.specs.Holding.{all_hold}
use Rattle.asp_model.specs.Models.{atoms_of, is_stable}
use Rattle.asp_model.specs.Sets.{Atoms}
use Rattle.asp_model.specs.Texts.{answers_from}
use Rattle.asp_model.proofs.ModelLaws.{answers-are, stable-subset}
use Rattle.asp_rows.specs.Bits.{IsAmong}
use Rattle.asp_vars.proofs.NumberingLaws.{int_eq_same, same_lists}
use Rattle.asp_faults.specs.Writing.{Writes}

-- a stable set in which the assumptions hold is an answer
pub is-priced : (p : Program) (S : Atoms) (c : List ℤ) → is_stable p S ≡ true → all_hold S p.assumptions ≡ true → c ≡ cost p S → IsPriced p (S, c)
is-priced p S c stable holds costs = ((answers-are p S).1 (stable, holds), costs)

pub priced-if : {E : Type 0} (p : Program) (S : Atoms) (c : List ℤ) (r : Result Bool E) → IfOk r (λ b. b ≡ is_stable p S) → all_hold S p.assumptions ≡ true → c ≡ cost p S
    → IfOk r (λ b. IsTrue b → IsPriced p (S, c))
priced-if p S c (Ok b) e h k = λ t. is-priced p S c (sym e ∙ t) h k
priced-if p S c (Err x) e h k = tt

-- costs that don't differ are the same
same-costs : (a b : List ℤ) → not (pointwise int_eq a b) ≡ false → a ≡ b
same-costs a b e = same_lists int_eq int_eq_same a b (by (pointwise int_eq a b) e)
  where
    by : (t : Bool) → not t ≡ false → t ≡ true
    by true d = refl
    by false d = absurd (false≢true (sym d))

pub cost-is : (p q : Program) (S : Atoms) (a b : List ℤ) → not (pointwise int_eq a b) ≡ false → a ≡ cost q S → q ≡ p → b ≡ cost p S
cost-is p q S a b same is e = sym (same-costs a b same) ∙ is ∙ ap (λ (x : Program). cost x S) e

-- an answer's atoms stand in the program
pub priced-among : (p : Program) (S : Atoms) (c : List ℤ) → IsPriced p (S, c) → IsAmong (atoms_of p) S
priced-among p S c h = let parts = stable-subset p S ((answers-are p S).0 h.0).0 in record { rising = parts.0; stand = parts.1 }

-- the lines that are written behind so many others
pub writes-from : {T E : Type 0} (p : Program) (sets : List Atoms) (n : ℕ) (a b : Option (List ℕ)) (f g : ℕ) (r : Result T E) → 0 < n
    → Writes a b f g r (answers_from p (n - 1 + 1) sets) → Writes a b f g r (answers_from p n sets)
writes-from p sets n a b f g r some w = subst (λ (m : ℕ). Writes a b f g r (answers_from p m sets)) (omega (arith, some)) w
