-- What the check says.
use Rattle.std.proofs.Common.{◌≡◌, ℕ, zero, suc, Bool, true, false, not, ◌||◌, eqb, List, [], ◌∷◌, filter, length, refl, sym, ap, ◌∙◌, subst}
use Rattle.std.specs.List.{list_any, list_all}
use Rattle.std.proofs.lemmas.Bool.{false≢true, eqb-true, eq-eqb}
use Rattle.asp_model.specs.declared.program.Program.{Program}
use Rattle.asp_model.specs.Sets.{Atoms, IsAscending, has, IsSubset}
use Rattle.asp_model.specs.Models.{rules_in_force, atoms_of, is_stable, least_model}
use Rattle.asp_model.specs.Sound.{IsSound}
use Rattle.asp_model.proofs.ModelLaws.{stable-least}
use Rattle.asp_vars.specs.Literals.{hits}
use Rattle.asp_vars.specs.Numbering.{values}
use Rattle.asp_vars.specs.Completion.{completion}
use Rattle.asp_vars.specs.Unfounded.{assigned, is_unfounded}
use Rattle.asp_found.specs.Rests.{rest}
use Rattle.asp_found.specs.Verdicts.{keeps, is_supported, HasUnfounded}
use Rattle.asp_found.proofs.RestLaws.{none_hit, stable_without_rest, rest-subset, has-filtered}
use Rattle.asp_found.proofs.UnfoundedLaws.{rest_unfounded}
use Rattle.asp_found.proofs.VerdictLaws.{none_broken}

rest_is : (p : Program) (S L xs : Atoms) → L ≡ least_model p S → xs ≡ filter (λ a. not (has L a)) S → xs ≡ rest p S
rest_is p S L xs least e = e ∙ ap (λ T. filter (λ a. not (has T a)) S) least

pub empty_list : (xs : List ℕ) → eqb (length xs) 0 ≡ true → xs ≡ []
empty_list [] e = refl
empty_list (x ∷ xs) e = absurd (zero_suc (eqb-true (length (x ∷ xs)) 0 e))
  where
    zero_suc : suc (length xs) ≡ zero → ⊥
    zero_suc q = cc q

pub check_stable : (p : Program) (S L xs : Atoms) → IsSound p → IsAscending S → list_all (keeps S) (rules_in_force p) ≡ true →
    list_all (λ a. not (has S a) || is_supported p S a) (atoms_of p) ≡ true → L ≡ least_model p S → xs ≡ filter (λ a. not (has L a)) S →
    eqb (length xs) 0 ≡ true → is_stable p S ≡ true
check_stable p S L xs sound up kept supported least e empty =
    stable_without_rest p S sound up (none_hit p S (completion p) (none_broken p S kept supported))
    (sym (rest_is p S L xs least e) ∙ empty_list xs empty)

-- a stable set has no rest
stable_no_rest : (p : Program) (S xs : Atoms) → xs ≡ rest p S → eqb (length xs) 0 ≡ false → is_stable p S ≡ true → ⊥
stable_no_rest p S [] e some stable = false≢true (sym some ∙ refl)
stable_no_rest p S (x ∷ xs) e some stable =
    let first : has (rest p S) x ≡ true = ap (λ T. has T x) (sym e) ∙ ap (λ b. b || has xs x) (eq-eqb x x refl) in
    let parts = has-filtered (λ a. not (has (least_model p S) a)) S x first in
    let there : has (least_model p S) x ≡ true = ap (λ T. has T x) (sym (stable-least p S stable)) ∙ parts.0 in
    false≢true (ap not (sym there) ∙ parts.1)

pub check_unfounded : (p : Program) (S L xs : Atoms) → IsSound p → IsAscending S → list_all (keeps S) (rules_in_force p) ≡ true →
    list_all (λ a. not (has S a) || is_supported p S a) (atoms_of p) ≡ true → L ≡ least_model p S → xs ≡ filter (λ a. not (has L a)) S →
    eqb (length xs) 0 ≡ false → HasUnfounded p S xs × (is_stable p S ≡ false)
check_unfounded p S L xs sound up kept supported least e some =
    let same : xs ≡ rest p S = rest_is p S L xs least e in
    let unbroken : list_any (hits (values p S)) (completion p) ≡ false = none_broken p S kept supported in
    let unstable : is_stable p S ≡ false = cases (is_stable p S) refl (stable_no_rest p S xs same some) in
    let U : Atoms → Type 0 = λ T. IsSubset T S in
    let V : Atoms → Type 0 = λ T. is_unfounded p (assigned p S) T ≡ true in (
      record {
        unbroken = unbroken;
        within = subst U (sym same) (rest-subset p S);
        unfounded = subst V (sym same) (rest_unfounded p S sound up (none_hit p S (completion p) unbroken) unstable);
      },
      unstable,
    )
  where
    cases : (t : Bool) → t ≡ is_stable p S → (is_stable p S ≡ true → ⊥) → is_stable p S ≡ false
    cases false q f = sym q
    cases true q f = absurd (f (sym q))

-- a set without an unfounded subset
pub no_unfounded_stable : (p : Program) (S : Atoms) → IsSound p → IsAscending S → list_any (hits (values p S)) (completion p) ≡ false →
    ((U : Atoms) → IsSubset U S → is_unfounded p (assigned p S) U ≡ false) → is_stable p S ≡ true
no_unfounded_stable p S sound up unbroken none = cases (is_stable p S) refl
  where
    cases : (t : Bool) → t ≡ is_stable p S → is_stable p S ≡ true
    cases true q = sym q
    cases false q =
        absurd (false≢true (sym (none (rest p S) (rest-subset p S)) ∙ rest_unfounded p S sound up (none_hit p S (completion p) unbroken) (sym q)))
