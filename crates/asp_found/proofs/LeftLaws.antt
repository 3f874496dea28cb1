-- What a set has beyond the least model of its reduct, read off the marks.
use Rattle.std.proofs.Common.{◌≡◌, ℕ, ◌+◌, ◌<◌, Bool, true, false, not, cond, ◌&&◌, eqb, List, [], ◌∷◌, filter, length, get_or, refl, sym, ap, ◌∙◌, arith}
use Rattle.std.specs.List.{list_all}
use Rattle.std.proofs.lemmas.Bool.{false≢true, and_parts}
use Rattle.asp_model.specs.declared.program.Program.{Program}
use Rattle.asp_model.specs.Sets.{Atoms, has}
use Rattle.asp_model.specs.Models.{rules_in_force, atoms_of, least_model}
use Rattle.asp_model.specs.Sound.{IsSound}
use Rattle.asp_model.proofs.SetLaws.{has-set_of, has_at}
use Rattle.asp_vars.specs.Numbering.{bodies_of, var_of_atom, nth_atom}
use Rattle.asp_vars.proofs.PlaceLaws.{var_of_nth_atom}
use Rattle.asp_found.specs.Marks.{is_marked, Shows, shown}
use Rattle.asp_found.specs.Derivings.{IsDeriving, AreDerived}
use Rattle.asp_found.specs.Rests.{rest}
use Rattle.asp_found.specs.Verdicts.{keeps}
use Rattle.asp_found.proofs.CheckLaws.{empty_list}
use Rattle.asp_found.proofs.LeastLaws.{has-shown, least_is}

-- ---- an atom at its place
and_true : (a b : Bool) → b ≡ true → a ≡ (a && b)
and_true true b e = sym e
and_true false b e = refl

and_false : (a b : Bool) → b ≡ false → false ≡ (a && b)
and_false true b e = sym e
and_false false b e = refl

pub derived_here : (p : Program) (marks : List Bool) (A : Atoms) (a i : ℕ) → A ≡ atoms_of p → i < length A → get_or A i 0 ≡ a → get_or marks (i + 1) false ≡ has (shown p marks) a
derived_here p marks A a i same lt at =
    let size = ap length same in
    let here : nth_atom p i ≡ a = ap (λ X. get_or X i 0) (sym same) ∙ at in
    let number = var_of_nth_atom p i (omega (arith, size, lt)) in
    let var : var_of_atom p a ≡ i + 1 = ap (var_of_atom p) (sym here) ∙ (let e : var_of_atom p (nth_atom p i) ≡ i + 1 = omega (arith, number) in e) in
    ap (is_marked marks) (sym var)
    ∙ and_true (is_marked marks (var_of_atom p a)) (has (atoms_of p) a) (has_at (atoms_of p) a i (omega (arith, size, lt)) here)
    ∙ sym (has-shown p marks a)

pub derived_nowhere : (p : Program) (marks : List Bool) (A : Atoms) (a : ℕ) → A ≡ atoms_of p → has A a ≡ false → false ≡ has (shown p marks) a
derived_nowhere p marks A a same none =
    and_false (is_marked marks (var_of_atom p a)) (has (atoms_of p) a) (ap (λ X. has X a) (sym same) ∙ none) ∙ sym (has-shown p marks a)

-- ---- filters
none_more : (q r : ℕ → Bool) (xs : List ℕ) → ((a : ℕ) → r a ≡ true → q a ≡ true) → filter q xs ≡ [] → filter r xs ≡ []
none_more q r [] f e = refl
none_more q r (x ∷ xs) f e = cases (q x) (r x) refl refl (none_more q r xs f)
  where
    some : x ∷ filter q xs ≡ [] → ⊥
    some e = cc e

    cases : (s t : Bool) → s ≡ q x → t ≡ r x → (filter q xs ≡ [] → filter r xs ≡ []) → filter r (x ∷ xs) ≡ []
    cases true t a b later = absurd (some (ap (λ u. cond u (x ∷ filter q xs) (filter q xs)) a ∙ e))
    cases false true a b later = absurd (false≢true (a ∙ f x (sym b)))
    cases false false a b later =
        ap (λ u. cond u (x ∷ filter r xs) (filter r xs)) (sym b) ∙ later (ap (λ u. cond u (x ∷ filter q xs) (filter q xs)) a ∙ e)

same_filter : (q r : ℕ → Bool) (xs : List ℕ) → ((a : ℕ) → q a ≡ r a) → filter q xs ≡ filter r xs
same_filter q r [] f = refl
same_filter q r (x ∷ xs) f =
    ap (λ u. cond u (x ∷ filter q xs) (filter q xs)) (f x) ∙ ap (λ ys. cond (r x) (x ∷ ys) ys) (same_filter q r xs f)

not_less : (a b : Bool) → (a ≡ true → b ≡ true) → not b ≡ true → not a ≡ true
not_less true b f e = sym (ap not (f refl)) ∙ e
not_less false b f e = refl

-- ---- the whole set is derived
pub whole_rest : (p : Program) (S : Atoms) (set marks : List Bool) (found xs : List ℕ) → Shows p S set → IsDeriving p set marks found →
    xs ≡ filter (λ a. not (has (shown p marks) a)) S → eqb (length xs) 0 ≡ true → xs ≡ rest p S
whole_rest p S set marks found xs shows h is none =
    let empty : xs ≡ [] = empty_list xs none in
    empty ∙ sym (none_more (λ a. not (has (shown p marks) a)) (λ a. not (has (least_model p S) a)) S (λ a. not_less (has (shown p marks) a) (has (least_model p S) a) (derived a)) (sym is ∙ empty))
  where
    derived : (a : ℕ) → has (shown p marks) a ≡ true → has (least_model p S) a ≡ true
    derived a e =
        let parts = and_parts (is_marked marks (var_of_atom p a)) (has (atoms_of p) a) (sym (has-shown p marks a) ∙ e) in
        h.sound S shows a parts.1 parts.0

-- ---- nothing is left to derive
pub closed_rest : (p : Program) (S : Atoms) (set marks : List Bool) (found xs : List ℕ) → IsSound p → list_all (keeps S) (rules_in_force p) ≡ true →
    Shows p S set → IsDeriving p set marks found → AreDerived p set marks (length (bodies_of p)) → xs ≡ filter (λ a. not (has (shown p marks) a)) S →
    xs ≡ rest p S
closed_rest p S set marks found xs sound kept shows h closed is =
    is ∙ same_filter (λ a. not (has (shown p marks) a)) (λ a. not (has (least_model p S) a)) S (λ a. ap not (same a))
  where
    same : (a : ℕ) → has (shown p marks) a ≡ has (least_model p S) a
    same a = sym (has-set_of (shown p marks) a) ∙ ap (λ T. has T a) (least_is p S set marks found sound kept shows h closed)
