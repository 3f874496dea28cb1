-- A set excuses a body by those of its atoms alone that stand in the body as positive literals.
use Rattle.std.proofs.Common.{◌≡◌, ℕ, Bool, true, false, cond, ◌||◌, List, [], ◌∷◌, map, Option, refl, ap, ◌∙◌, subst, arith, inl, inr}
use Rattle.std.specs.Prelude.{ℤ, pos, ◌≤ℤ◌}
use Rattle.std.specs.List.{list_any, AllByRecursion}
use Rattle.std.proofs.lemmas.Bool.{false≢true, and_parts, and_from}
use Rattle.std.proofs.lemmas.Int.{ints}
use Rattle.asp_model.specs.declared.program.Body.{Body}
use Rattle.asp_model.specs.declared.program.Body.TheVariants as body
use Rattle.asp_model.specs.declared.program.Program.{Program}
use Rattle.asp_model.specs.Sets.{Atoms, has}
use Rattle.asp_model.specs.Holding.{atom_of, is_positive}
use Rattle.asp_vars.specs.Literals.{Literal, T, complement, literal_eq, has_literal, holds_in}
use Rattle.asp_vars.specs.Numbering.{var_of_atom, literal_of_form, literal_of}
use Rattle.asp_vars.specs.Tabled.{form_literals}
use Rattle.asp_vars.specs.Unfounded.{is_false, is_inside, outside_weight, needs, is_excused}
use Rattle.asp_vars.proofs.StandingLaws.{Among, each_among}
use Rattle.asp_vars.proofs.SupportLaws.{either, or_left, or_right}
use Rattle.asp_loop.proofs.WeighLaws.{literal_eq-itself}
use Rattle.asp_loop.proofs.WeightedLaws.{AreItems, form_items}
use Rattle.asp_source.proofs.LooseLaws.{lighter}

-- On the positive literals of the body the first set is within the second.
abbrev pub IsWithin : Program → Body → Atoms → Atoms → Type 0
IsWithin p b U V = (a : ℕ) → has_literal (form_literals p b) (T (var_of_atom p a)) ≡ true → has U a ≡ true → has V a ≡ true

one_inside : (p : Program) (b : Body) (U V : Atoms) (l : ℤ) → IsWithin p b U V → has_literal (form_literals p b) (literal_of p l) ≡ true → is_inside U l ≡ true → is_inside V l ≡ true
one_inside p b U V l within there e =
    let parts = and_parts (is_positive l) (has U (atom_of l)) e in
    let is : literal_of p l ≡ T (var_of_atom p (atom_of l)) = ap (λ t. record { var = var_of_atom p (atom_of l); truth = t }) parts.0 in
    and_from (is_positive l) (has V (atom_of l)) parts.0 (within (atom_of l) (subst (λ (k : Literal). has_literal (form_literals p b) k ≡ true) is there) parts.1)

any_inside : (U V : Atoms) (ls : List ℤ) → AllByRecursion (λ l. is_inside U l ≡ true → is_inside V l ≡ true) ls → list_any (is_inside U) ls ≡ true → list_any (is_inside V) ls ≡ true
any_inside U V [] h e = absurd (false≢true e)
any_inside U V (l ∷ ls) h e = elim (either (is_inside U l) (list_any (is_inside U) ls) e) [
  | inl q ↦ or_left (is_inside V l) (list_any (is_inside V) ls) (h.0 q)
  | inr q ↦ or_right (is_inside V l) (list_any (is_inside V) ls) (any_inside U V ls h.1 q)
]

outside_less : (p : Program) (x : List (Option Bool)) (U V : Atoms) (items : List (ℤ × ℤ)) → AreItems items →
    AllByRecursion (λ (i : ℤ × ℤ). is_inside U i.0 ≡ true → is_inside V i.0 ≡ true) items → outside_weight p x V items ≤ℤ outside_weight p x U items
outside_less p x U V [] w h = omega (arith, ints)
outside_less p x U V (i ∷ items) w h =
    let a = one (is_false p x i.0) (is_inside U i.0) (is_inside V i.0) h.0 in
    let b = outside_less p x U V items w.1 h.1 in
    omega (arith, ints, a, b)
  where
    one : (f u v : Bool) → (u ≡ true → v ≡ true) → cond (f || v) (pos 0) i.1 ≤ℤ cond (f || u) (pos 0) i.1
    one true u v s = omega (arith, ints)
    one false true true s = omega (arith, ints)
    one false true false s = absurd (false≢true (s refl))
    one false false true s = w.0
    one false false false s = omega (arith, ints)

each_literal : (p : Program) (ls : List ℤ) → AllByRecursion (λ l. has_literal (map (literal_of p) ls) (literal_of p l) ≡ true) ls
each_literal p ls = each ls (each_among ls)
  where
    mapped : (q : Literal → Bool) (ks : List ℤ) → list_any q (map (literal_of p) ks) ≡ list_any (λ k. q (literal_of p k)) ks
    mapped q [] = refl
    mapped q (k ∷ ks) = ap (λ t. q (literal_of p k) || t) (mapped q ks)

    each : (ks : List ℤ) → AllByRecursion (Among ls) ks → AllByRecursion (λ l. has_literal (map (literal_of p) ls) (literal_of p l) ≡ true) ks
    each [] h = tt
    each (k ∷ ks) h = (mapped (λ m. literal_eq m (literal_of p k)) ls ∙ h.0 (λ j. literal_eq (literal_of p j) (literal_of p k)) (literal_eq-itself (literal_of p k)), each ks h.1)

each_item : (p : Program) (items : List (ℤ × ℤ)) → AllByRecursion (λ (i : ℤ × ℤ). has_literal (map (λ j. literal_of p j.0) items) (literal_of p i.0) ≡ true) items
each_item p items = each items (each_among items)
  where
    mapped : (q : Literal → Bool) (js : List (ℤ × ℤ)) → list_any q (map (λ j. literal_of p j.0) js) ≡ list_any (λ (j : ℤ × ℤ). q (literal_of p j.0)) js
    mapped q [] = refl
    mapped q (j ∷ js) = ap (λ t. q (literal_of p j.0) || t) (mapped q js)

    each : (is : List (ℤ × ℤ)) → AllByRecursion (Among items) is → AllByRecursion (λ (i : ℤ × ℤ). has_literal (map (λ j. literal_of p j.0) items) (literal_of p i.0) ≡ true) is
    each [] h = tt
    each (i ∷ is) h = (mapped (λ k. literal_eq k (literal_of p i.0)) items ∙ h.0 (λ (j : ℤ × ℤ). literal_eq (literal_of p j.0) (literal_of p i.0)) (literal_eq-itself (literal_of p i.0)), each is h.1)

each_then : {X : Type 0} (P Q : X → Type 0) → ((x : X) → P x → Q x) → (xs : List X) → AllByRecursion P xs → AllByRecursion Q xs
each_then P Q f [] h = tt
each_then P Q f (x ∷ xs) h = (f x h.0, each_then P Q f xs h.1)

needs_within : (p : Program) (x : List (Option Bool)) (U V : Atoms) (b : Body) → IsWithin p b U V → AreItems (form_items b) → needs p x U b ≡ true → needs p x V b ≡ true
needs_within p x U V (body.All ls) within w e =
    any_inside U V ls (each_then (λ l. has_literal (map (literal_of p) ls) (literal_of p l) ≡ true) (λ l. is_inside U l ≡ true → is_inside V l ≡ true)
    (λ l there. one_inside p (body.All ls) U V l within there) ls (each_literal p ls)) e
needs_within p x U V (body.AtLeast c items) within w e =
    lighter c (outside_weight p x V items) (outside_weight p x U items)
    (outside_less p x U V items w (each_then (λ (i : ℤ × ℤ). has_literal (map (λ j. literal_of p j.0) items) (literal_of p i.0) ≡ true)
    (λ (i : ℤ × ℤ). is_inside U i.0 ≡ true → is_inside V i.0 ≡ true) (λ i there. one_inside p (body.AtLeast c items) U V i.0 within there)
    items (each_item p items))) e

pub excused_within : (p : Program) (x : List (Option Bool)) (U V : Atoms) (b : Body) → IsWithin p b U V → AreItems (form_items b) → is_excused p x U b ≡ true → is_excused p x V b ≡ true
excused_within p x U V b within w e = elim (either (holds_in x (complement (literal_of_form p b))) (needs p x U b) e) [
  | inl h ↦ or_left (holds_in x (complement (literal_of_form p b))) (needs p x V b) h
  | inr h ↦ or_right (holds_in x (complement (literal_of_form p b))) (needs p x V b) (needs_within p x U V b within w h)
]
