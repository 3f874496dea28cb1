-- What shows that a nogood is neither unit nor violated.
use Rattle.std.proofs.Common.{◌≡◌, ◌≢◌, ℕ, Bool, true, false, not, ◌&&◌, ◌||◌, eqb, List, [], ◌∷◌, Option, refl, sym, ap, ◌∙◌, subst, arith}
use Rattle.std.specs.List.{list_all, list_any}
use Rattle.std.specs.Bool.{beq}
use Rattle.std.proofs.lemmas.Bool.{false≢true}
use Rattle.std.proofs.lemmas.Bool.Decides.{nat_tests}
use Rattle.asp_vars.specs.Literals.{Literal, literal_eq, has_literal, holds_in}
use Rattle.asp_vars.proofs.LiteralLaws.{same_literal, and_left, and_right}
use Rattle.asp_trail.specs.Fixpoint.{is_open, is_violated, is_unit, is_at_fixpoint}

pub list_all_at : (p : Literal → Bool) (n : List Literal) (l : Literal) → list_all p n ≡ true → has_literal n l ≡ true → p l ≡ true
list_all_at p [] l h e = absurd (false≢true e)
list_all_at p (k ∷ n) l h e = cases (literal_eq k l) refl (list_all_at p n l (and_right (p k) (list_all p n) h))
  where
    cases : (b : Bool) → b ≡ literal_eq k l → (has_literal n l ≡ true → p l ≡ true) → p l ≡ true
    cases true q rest = subst (λ x. p x ≡ true) (same_literal k l (sym q)) (and_left (p k) (list_all p n) h)
    cases false q rest = rest (ap (λ b. b || has_literal n l) q ∙ e)

pub false_from : (b : Bool) → (b ≡ true → ⊥) → b ≡ false
false_from true f = absurd (f refl)
false_from false f = refl

-- where some literal passes, one that is in the list does
any_found : (p : Literal → Bool) (n : List Literal) → list_any p n ≡ true → (l : Literal) × (has_literal n l ≡ true) × (p l ≡ true)
any_found p [] e = absurd (false≢true e)
any_found p (k ∷ n) e = cases (p k) refl (any_found p n)
  where
    eq_itself : (l : Literal) → literal_eq l l ≡ true
    eq_itself l = both l.var l.truth
      where
        both : (v : ℕ) (b : Bool) → (eqb v v && beq b b) ≡ true
        both v true = grind (arith, nat_tests)
        both v false = grind (arith, nat_tests)

    or_left : (a b : Bool) → a ≡ true → (a || b) ≡ true
    or_left true b q = refl
    or_left false b q = absurd (false≢true q)

    or_right : (a b : Bool) → b ≡ true → (a || b) ≡ true
    or_right true b q = refl
    or_right false b q = q

    cases : (b : Bool) → b ≡ p k → (list_any p n ≡ true → (l : Literal) × (has_literal n l ≡ true) × (p l ≡ true)) →
        (l : Literal) × (has_literal (k ∷ n) l ≡ true) × (p l ≡ true)
    cases true q rest = (k, or_left (literal_eq k k) (has_literal n k) (eq_itself k), sym q)
    cases false q rest =
        let f = rest (ap (λ b. b || list_any p n) q ∙ e) in
        (f.0, or_right (literal_eq k f.0) (has_literal n f.0) f.1, f.2)

fixpoint_parts : (a : List (Option Bool)) (n : List Literal) → is_violated a n ≡ false → is_unit a n ≡ false → is_at_fixpoint a n ≡ true
fixpoint_parts a n v u = ap (λ b. not b && not (is_unit a n)) v ∙ ap (λ b. not false && not b) u

-- two different literals that aren't true
pub fixpoint_by_two : (a : List (Option Bool)) (n : List Literal) (k l : Literal) → has_literal n k ≡ true → has_literal n l ≡ true → k ≢ l →
    holds_in a k ≡ false → holds_in a l ≡ false → is_at_fixpoint a n ≡ true
fixpoint_by_two a n k l hk hl ne fk fl =
    fixpoint_parts a n
    (false_from (is_violated a n) (λ h. false≢true (sym fk ∙ list_all_at (holds_in a) n k h hk)))
    (false_from (is_unit a n) (λ h.
    let f = any_found (λ m. is_open a m && list_all (λ j. literal_eq j m || holds_in a j) n) n h in
    let all = and_right (is_open a f.0) (list_all (λ j. literal_eq j f.0 || holds_in a j) n) f.2 in
    let one : k ≡ f.0 = same k f.0 fk (list_all_at (λ j. literal_eq j f.0 || holds_in a j) n k all hk) in
    let two : l ≡ f.0 = same l f.0 fl (list_all_at (λ j. literal_eq j f.0 || holds_in a j) n l all hl) in
    ne (one ∙ sym two)))
  where
    or_false : (b c : Bool) → c ≡ false → (b || c) ≡ true → b ≡ true
    or_false true c q h = refl
    or_false false c q h = absurd (false≢true (sym q ∙ h))

    same : (x m : Literal) → holds_in a x ≡ false → (literal_eq x m || holds_in a x) ≡ true → x ≡ m
    same x m q h = same_literal x m (or_false (literal_eq x m) (holds_in a x) q h)

-- a literal that is false: neither true nor open
pub fixpoint_by_one : (a : List (Option Bool)) (n : List Literal) (l : Literal) → has_literal n l ≡ true → holds_in a l ≡ false → is_open a l ≡ false → is_at_fixpoint a n ≡ true
fixpoint_by_one a n l hl fl ol =
    fixpoint_parts a n
    (false_from (is_violated a n) (λ h. false≢true (sym fl ∙ list_all_at (holds_in a) n l h hl)))
    (false_from (is_unit a n) (λ h.
    let f = any_found (λ m. is_open a m && list_all (λ j. literal_eq j m || holds_in a j) n) n h in
    let all = and_right (is_open a f.0) (list_all (λ j. literal_eq j f.0 || holds_in a j) n) f.2 in
    let one : l ≡ f.0 = same l f.0 fl (list_all_at (λ j. literal_eq j f.0 || holds_in a j) n l all hl) in
    let op = and_left (is_open a f.0) (list_all (λ j. literal_eq j f.0 || holds_in a j) n) f.2 in
    false≢true (sym ol ∙ (ap (is_open a) one ∙ op))))
  where
    or_false : (b c : Bool) → c ≡ false → (b || c) ≡ true → b ≡ true
    or_false true c q h = refl
    or_false false c q h = absurd (false≢true (sym q ∙ h))

    same : (x m : Literal) → holds_in a x ≡ false → (literal_eq x m || holds_in a x) ≡ true → x ≡ m
    same x m q h = same_literal x m (or_false (literal_eq x m) (holds_in a x) q h)
