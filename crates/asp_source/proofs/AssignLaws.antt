-- What the pointers are after a literal came to hold, or was taken back.
use Rattle.std.proofs.Common.{◌≡◌, ◌≢◌, ℕ, ◌+◌, ◌-◌, ◌<◌, ◌≤◌, Bool, true, false, not, cond, ◌||◌, eqb, leb, List, [], ◌∷◌, map, length, set, get_or, Option, Some, None, refl, sym, ap, ◌∙◌, subst, arith, ◌⊎◌, inl, inr, get_or-set_same}
use Rattle.std.specs.Prelude.{ℤ, is_some}
use Rattle.std.specs.List.{All, AllByRecursion}
use Rattle.std.proofs.lemmas.Bool.{false≢true, eqb-true, eq-eqb}
use Rattle.std.proofs.lemmas.Bool.Decides.{nat_tests}
use Rattle.asp_model.specs.declared.program.Body.{Body}
use Rattle.asp_model.specs.declared.program.Body.TheVariants as body
use Rattle.asp_model.specs.declared.program.Program.{Program}
use Rattle.asp_model.specs.Sets.{has}
use Rattle.asp_model.specs.Holding.{atom_of}
use Rattle.asp_model.specs.Models.{atoms_of}
use Rattle.asp_model.specs.Sound.{IsSound}
use Rattle.asp_vars.specs.Literals.{Literal, F, complement, has_literal, value_of, agrees, holds_in}
use Rattle.asp_vars.specs.Numbering.{body_eq, bodies_of, place_of, var_of_atom, literal_of_form, literal_of, nth_body}
use Rattle.asp_vars.specs.Completion.{supports}
use Rattle.asp_vars.specs.Tabled.{bound_of, form_literals, heads_of, held_row, bodies_with, occurrences_of, IsAtomVar, Stands as BodyStands}
use Rattle.asp_vars.specs.Unfounded.{is_false}
use Rattle.asp_vars.proofs.LiteralLaws.{beq_same}
use Rattle.asp_scc.specs.Components.{Parts}
use Rattle.asp_scc.proofs.ReachLaws.{atom_small}
use Rattle.asp_loop.specs.Parts.{form_of}
use Rattle.asp_vars.proofs.SupportLaws.{at_form}
use Rattle.asp_loop.proofs.WeighLaws.{literal_eq-itself}
use Rattle.asp_loop.proofs.WeightedLaws.{by_recursion, form_items}
use Rattle.asp_source.specs.Marks.{is_marked}
use Rattle.asp_source.specs.Ranks.{source_of}
use Rattle.asp_source.specs.Pointers.{ArePointers, AreSupports, Loses, IsGone, AreGone, IsGoneAt, IsGoneBy, seek, regain}
use Rattle.asp_source.proofs.LookLaws.{at_member}
use Rattle.asp_source.proofs.ChangeLaws.{newly, excused_back, each_listed, twice, kept_on, set_marked, told_other, unset_less}
use Rattle.asp_source.proofs.GatherLaws.{each_occurrence}
use Rattle.asp_source.proofs.LoseLaws.{less_of}
use Rattle.asp_source.proofs.PointerLaws.{IsSource, source_is, ranked_less, ranked_values, supports_less, support_at, source_weighted, false_from}

-- none of its heads has the body as its source, so the atom hasn't
gone_at : (p : Program) (t : List ℕ) (a s : ℕ) (d : Body) → IsSource p a s d → AreGone p t (place_of (body_eq d) (bodies_of p)) → source_of p t a ≢ s
gone_at p t a s d is gone e =
    at_member (IsGone t (length (atoms_of p) + 1 + place_of (body_eq d) (bodies_of p))) (heads_of p (nth_body p (place_of (body_eq d) (bodies_of p)))) (var_of_atom p a) gone
    (ap (λ b. has (heads_of p b) (var_of_atom p a)) (at_form d (bodies_of p) (body.All []) is.listed) ∙ is.head)
    (let v = is.number in omega (arith, e, v))

-- a literal comes to hold
pub assigned : (p : Program) (c : Parts) (x : List (Option Bool)) (ranks s : List ℕ) (q : List Bool) (t : List ℕ) (r : List Bool) (l : Literal) →
    IsSound p → l.var < length x → value_of x l.var ≡ None → Loses s q t r →
    All (IsGoneAt p t) (bodies_with p (complement l)) →
    (l.var ≤ length (atoms_of p) → All (IsGoneBy p t) (occurrences_of p (complement l))) →
    ArePointers p c x s ranks q [] → ArePointers p c (set x l.var (Some l.truth)) t ranks r []
assigned p c x ranks s q t r l sound lt none loses false_body lighter_body h = record {
  size = loses.size ∙ h.size;
  rank_room = h.rank_room;
  room = loses.room ∙ h.room;
  supports = supported;
  ranked = ranked_values p c x (set x l.var (Some l.truth)) ranks (is_marked []) t (λ U a stands nz e.
      let sup = support_at p t a supported stands nz in
      let is = source_is p a (source_of p t a) sup in
      excused_back p x (set x l.var (Some l.truth)) U (form_of p (source_of p t a)) (source_weighted p a (source_of p t a) sound sup)
      (λ f. own a is.0 is.1 f)
      (subst (λ (d : Body). AllByRecursion (λ (i : ℤ × ℤ). is_false p (set x l.var (Some l.truth)) i.0 ≡ true → is_false p x i.0 ≡ true)
      (form_items d)) (sym is.1.form) (items a is.0 is.1 is.0 refl)) e)
      (ranked_less p c x ranks (is_marked []) s t less h.ranked);
  sought = λ v at z cyclic alive. elim (loses.less v) [
    | inl e ↦ elim (h.sought v at (sym e ∙ z) cyclic (false_from (holds_in (set x l.var (Some l.truth)) (F v)) (holds_in x (F v)) (kept_on x l (F v) none) alive)) [
      | inl f ↦ inl (loses.more (v - 1) f)
      | inr f ↦ inr f
    ]
    | inr e ↦ inl e.1
  ];
}
  where
    less : (v : ℕ) → (get_or t v 0 ≡ get_or s v 0) ⊎ (get_or t v 0 ≡ 0)
    less = less_of s q t r loses

    supported : AreSupports p t
    supported = supports_less p s t (less_of s q t r loses) h.supports

    own : (a : ℕ) (d : Body) → IsSource p a (source_of p t a) d →
        holds_in (set x l.var (Some l.truth)) (complement (literal_of_form p (form_of p (source_of p t a)))) ≡ true →
        holds_in x (complement (literal_of_form p (form_of p (source_of p t a)))) ≡ true
    own a d is f = elim (newly x l (complement (literal_of_form p (form_of p (source_of p t a)))) lt f) [
      | inl before ↦ before
      | inr same ↦
          let here : complement l ≡ literal_of_form p d = ap complement (sym same) ∙ twice (literal_of_form p (form_of p (source_of p t a))) ∙ ap (literal_of_form p) is.form in
          let gone = each_occurrence p (held_row p) (AreGone p t) (literal_of_form p d) d (bodies_of p)
          (subst (λ (k : Literal). AllByRecursion (IsGoneAt p t) (bodies_with p k)) here (by_recursion (IsGoneAt p t) (bodies_with p (complement l)) false_body))
          is.listed (ap (λ t. t || false) (literal_eq-itself (literal_of_form p d))) in
          absurd (gone_at p t a (source_of p t a) d is gone refl)
    ]

    each : (a : ℕ) (d : Body) → IsSource p a (source_of p t a) d → (bound : ℤ) (all : List (ℤ × ℤ)) → d ≡ body.AtLeast bound all →
        (is : List (ℤ × ℤ)) → AllByRecursion (λ (i : ℤ × ℤ). has_literal (map (λ j. literal_of p j.0) all) (literal_of p i.0) ≡ true) is →
        AllByRecursion (λ (i : ℤ × ℤ). has (atoms_of p) (atom_of i.0) ≡ true) is →
        AllByRecursion (λ (i : ℤ × ℤ). is_false p (set x l.var (Some l.truth)) i.0 ≡ true → is_false p x i.0 ≡ true) is
    each a d source bound all form [] listed atoms = tt
    each a d source bound all form (i ∷ is) listed atoms = (
      λ f. elim (newly x l (complement (literal_of p i.0)) lt f) [
        | inl before ↦ before
        | inr same ↦
            let stands = atom_small p (atom_of i.0) atoms.0 in
            let at : l.var ≡ (literal_of p i.0).var = ap (λ (k : Literal). k.var) (sym same) in
            let here : complement l ≡ literal_of p i.0 = ap complement (sym same) ∙ twice (literal_of p i.0) in
            let gone = each_occurrence p (form_literals p) (λ j. is_some (bound_of (nth_body p j)) ≡ true → AreGone p t j) (literal_of p i.0) d (bodies_of p)
            (subst (λ (k : Literal). AllByRecursion (IsGoneBy p t) (occurrences_of p k)) here
            (by_recursion (IsGoneBy p t) (occurrences_of p (complement l)) (lighter_body (omega (arith, at, stands)))))
            source.listed (ap (λ b. has_literal (form_literals p b) (literal_of p i.0)) form ∙ listed.0) in
            absurd (gone_at p t a (source_of p t a) d source (gone (ap (λ b. is_some (bound_of b)) (at_form d (bodies_of p) (body.All []) source.listed ∙ form))) refl)
      ],
      each a d source bound all form is listed.1 atoms.1,
    )

    items : (a : ℕ) (d : Body) → IsSource p a (source_of p t a) d → (e : Body) → d ≡ e →
        AllByRecursion (λ (i : ℤ × ℤ). is_false p (set x l.var (Some l.truth)) i.0 ≡ true → is_false p x i.0 ≡ true) (form_items e)
    items a d is (body.All ls) form = tt
    items a d is (body.AtLeast bound all) form = each a d is bound all form all (each_listed p all) (subst (BodyStands (atoms_of p)) form is.stands)

-- ---- a literal that held is taken back
seek_keeps : (c : Parts) (s : List ℕ) (q : List Bool) (v k : ℕ) → is_marked q k ≡ true → is_marked (seek c s q v) k ≡ true
seek_keeps c s q v k e = cases (not (eqb (get_or s v 0) 0)) (get_or c.trivial (get_or c.numbers v 0) false)
  where
    cases : (a b : Bool) → is_marked (cond a q (cond b q (set q (v - 1) true))) k ≡ true
    cases true b = e
    cases false true = e
    cases false false = set_marked q (v - 1) k e

regain_keeps : (p : Program) (c : Parts) (s : List ℕ) (q : List Bool) (l : Literal) (k : ℕ) → is_marked q k ≡ true → is_marked (regain p c s q l) k ≡ true
regain_keeps p c s q l k e = cases l.truth (leb l.var (length (atoms_of p)))
  where
    cases : (t a : Bool) → is_marked (cond t q (cond a (seek c s q l.var) q)) k ≡ true
    cases true a = e
    cases false true = seek_keeps c s q l.var k e
    cases false false = e

-- an atom without source that was false is queued
regain_marks : (p : Program) (c : Parts) (x : List (Option Bool)) (s : List ℕ) (q : List Bool) (l : Literal) (v : ℕ) →
    length q ≡ length (atoms_of p) → holds_in x l ≡ true → IsAtomVar p v → get_or s v 0 ≡ 0 → get_or c.trivial (get_or c.numbers v 0) false ≡ false →
    holds_in x (F v) ≡ true → holds_in (set x l.var None) (F v) ≡ false → is_marked (regain p c s q l) (v - 1) ≡ true
regain_marks p c x s q l v size holds at none cyclic was now = cases (eqb v l.var) refl
  where
    within : (n k : ℕ) → k ≤ n → leb k n ≡ true
    within n k h = grind (arith, nat_tests)

    one_way : (o : Option Bool) (k m : Literal) → agrees o k ≡ true → agrees o m ≡ true → k.truth ≡ m.truth
    one_way None k m e f = absurd (false≢true e)
    one_way (Some t) k m e f = sym (beq_same t k.truth e) ∙ beq_same t m.truth f

    cases : (t : Bool) → t ≡ eqb v l.var → is_marked (regain p c s q l) (v - 1) ≡ true
    cases false e = absurd (false≢true (sym now ∙ (told_other x l.var None (F v) (λ i. false≢true (e ∙ eq-eqb v l.var i)) ∙ was)))
    cases true e =
        let same : v ≡ l.var = eqb-true v l.var (sym e) in
        let truth : l.truth ≡ false = one_way (value_of x l.var) l (F v) holds (ap (λ w. agrees (value_of x w) (F v)) (sym same) ∙ was) in
        let low : leb l.var (length (atoms_of p)) ≡ true = ap (λ w. leb w (length (atoms_of p))) (sym same) ∙ within (length (atoms_of p)) v at.1 in
        ap (λ t. is_marked (cond t q (cond (leb l.var (length (atoms_of p))) (seek c s q l.var) q)) (v - 1)) truth
        ∙ ap (λ t. is_marked (cond t (seek c s q l.var) q) (v - 1)) low
        ∙ ap (λ w. is_marked (seek c s q w) (v - 1)) (sym same)
        ∙ ap (λ t. is_marked (cond (not t) q (cond (get_or c.trivial (get_or c.numbers v 0) false) q (set q (v - 1) true))) (v - 1)) (eq-eqb (get_or s v 0) 0 none)
        ∙ ap (λ t. is_marked (cond t q (set q (v - 1) true)) (v - 1)) cyclic
        ∙ get_or-set_same q (v - 1) true false (let a = at.0 in let b = at.1 in omega (arith, a, b, size))

pub undone : (p : Program) (c : Parts) (x : List (Option Bool)) (ranks s : List ℕ) (q r : List Bool) (l : Literal) → IsSound p → holds_in x l ≡ true →
    r ≡ regain p c s q l → length r ≡ length q → ArePointers p c x s ranks q [] → ArePointers p c (set x l.var None) s ranks r []
undone p c x ranks s q r l sound holds is room h = record {
  size = h.size;
  rank_room = h.rank_room;
  room = room ∙ h.room;
  supports = h.supports;
  ranked = ranked_values p c x (set x l.var None) ranks (is_marked []) s (λ U a stands nz e.
      excused_back p x (set x l.var None) U (form_of p (source_of p s a)) (source_weighted p a (source_of p s a) sound (support_at p s a h.supports stands nz))
      (unset_less x l.var (complement (literal_of_form p (form_of p (source_of p s a))))) (all_less (form_items (form_of p (source_of p s a)))) e) h.ranked;
  sought = λ v at z cyclic alive. cases v at z cyclic alive (holds_in x (F v)) refl;
}
  where
    all_less : (is : List (ℤ × ℤ)) → AllByRecursion (λ (i : ℤ × ℤ). is_false p (set x l.var None) i.0 ≡ true → is_false p x i.0 ≡ true) is
    all_less [] = tt
    all_less (i ∷ is) = (unset_less x l.var (complement (literal_of p i.0)), all_less is)

    cases : (v : ℕ) → IsAtomVar p v → get_or s v 0 ≡ 0 → get_or c.trivial (get_or c.numbers v 0) false ≡ false →
        holds_in (set x l.var None) (F v) ≡ false → (t : Bool) → t ≡ holds_in x (F v) → (is_marked r (v - 1) ≡ true) ⊎ (is_marked [] v ≡ true)
    cases v at z cyclic alive true e = inl (ap (λ (m : List Bool). is_marked m (v - 1)) is ∙ regain_marks p c x s q l v h.room holds at z cyclic (sym e) alive)
    cases v at z cyclic alive false e = elim (h.sought v at z cyclic (sym e)) [
      | inl f ↦ inl (ap (λ (m : List Bool). is_marked m (v - 1)) is ∙ regain_keeps p c s q l (v - 1) f)
      | inr f ↦ inr f
    ]
