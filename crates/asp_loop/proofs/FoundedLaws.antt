-- A part of a stable set has an atom that a rule derives from outside of the part.
use Rattle.std.proofs.Common.{◌≡◌, ℕ, Bool, true, false, not, ◌&&◌, ◌||◌, eqb, [], ◌∷◌, filter, refl, sym, ap, ◌∙◌, subst, inl, inr}
use Rattle.std.specs.List.{list_any}
use Rattle.std.proofs.lemmas.Bool.{false≢true, eqb-true}
use Rattle.asp_model.specs.declared.program.Program.{Program}
use Rattle.asp_model.specs.Sets.{Atoms, has, IsSubset}
use Rattle.asp_model.specs.Reduct.{reduct, step}
use Rattle.asp_model.specs.Models.{rules_in_force, is_stable}
use Rattle.asp_model.specs.Sound.{IsSound}
use Rattle.asp_model.proofs.MemberLaws.{subset_or_new, list_any-filter}
use Rattle.asp_model.proofs.StepLaws.{closed_from_step, step-subset}
use Rattle.asp_model.proofs.ModelLaws.{monotone, least_model-least, least_model-derived, stable-least}
use Rattle.asp_model.proofs.ReadingLaws.{step_read}
use Rattle.asp_loop.specs.Founded.{without, IsFounded}

one_test : (x y r c : Bool) → (c ≡ true → x ≡ y) → ((x && c) || (y && r)) ≡ (y && (c || r))
one_test true true r true h = refl
one_test true false r true h = absurd (false≢true (sym (h refl)))
one_test false true r true h = absurd (false≢true (h refl))
one_test false false r true h = refl
one_test true y r false h = refl
one_test false y r false h = refl

and-false : (x : Bool) → false ≡ (x && false)
and-false true = refl
and-false false = refl

tested_at : (q : ℕ → Bool) (S : Atoms) (a : ℕ) → list_any (λ b. q b && eqb b a) S ≡ (q a && has S a)
tested_at q [] a = and-false (q a)
tested_at q (b ∷ S) a =
    ap (λ r. (q b && eqb b a) || r) (tested_at q S a) ∙ one_test (q b) (q a) (has S a) (eqb b a) (λ e. ap q (eqb-true b a e))

pub has-filter : (q : ℕ → Bool) (S : Atoms) (a : ℕ) → has (filter q S) a ≡ (q a && has S a)
has-filter q S a = list_any-filter (λ b. eqb b a) q S ∙ tested_at q S a

kept : (u s : Bool) → u ≡ false → s ≡ true → (not u && s) ≡ true
kept true s e f = absurd (false≢true (sym e))
kept false s e f = f

lost : (u s : Bool) → u ≡ true → (not u && s) ≡ true → ⊥
lost true s e f = false≢true f
lost false s e f = false≢true e

in_one : (u s : Bool) → s ≡ true → (not u && s) ≡ false → u ≡ true
in_one true s e f = refl
in_one false s e f = absurd (false≢true (sym f ∙ e))

in_both : (u s : Bool) → (not u && s) ≡ true → (u ≡ false) × (s ≡ true)
in_both true s e = absurd (false≢true e)
in_both false s e = (refl, e)

pub has-without : (U S : Atoms) (a : ℕ) → has (without U S) a ≡ (not (has U a) && has S a)
has-without U S a = has-filter (λ b. not (has U b)) S a

pub without-subset : (U S : Atoms) → IsSubset (without U S) S
without-subset U S a h = (in_both (has U a) (has S a) (sym (has-without U S a) ∙ h)).1

pub stable-founded : (p : Program) (S U : Atoms) → IsSound p → is_stable p S ≡ true → IsSubset U S → (b : ℕ) → has U b ≡ true → IsFounded p S U
stable-founded p S U sound stable sub b there =
    let rules = reduct S (rules_in_force p) in
    let T = without U S in
    let least = stable-least p S stable in
    let fixed : step rules S ≡ S = ap (step rules) least ∙ least_model-derived p S sound ∙ sym least in
    elim (subset_or_new (step rules T) T) [
      | inl closed ↦
          let inside : has T b ≡ true = least_model-least p S T sound (closed_from_step rules T closed) b (subst (λ X. has X b ≡ true) least (sub b there)) in
          absurd (lost (has U b) (has S b) there (sym (has-without U S b) ∙ inside))
      | inr new ↦
          let in_S : has S new.0 ≡ true = sym (ap (λ X. has X new.0) fixed) ∙ step-subset rules T S (monotone p S sound) (without-subset U S) new.0 new.1 in
          let in_U : has U new.0 ≡ true = in_one (has U new.0) (has S new.0) in_S (sym (has-without U S new.0) ∙ new.2) in
          (new.0, in_U, sym (ap (λ X. has X new.0) (step_read S T (rules_in_force p))) ∙ new.1)
    ]
