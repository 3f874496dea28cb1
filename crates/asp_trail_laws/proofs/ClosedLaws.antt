-- The literals of a trail on which nogoods are at fixpoint are closed under these.
use Rattle.std.proofs.Common.{◌≡◌, ℕ, ◌<◌, Bool, true, false, not, ◌&&◌, ◌||◌, List, [], ◌∷◌, length, map, get_or, Option, Some, None, refl, sym, ap, ◌∙◌, subst, arith}
use Rattle.std.specs.List.{list_all, list_any}
use Rattle.std.specs.Bool.{beq}
use Rattle.std.specs.Option.{is_none}
use Rattle.std.proofs.lemmas.Bool.{false≢true, false_from_ne_true, and_from, and_parts, or_left, or_right, or_from, not-true}
use Rattle.std.proofs.lemmas.List.{length-map, get_or-map}
use Rattle.asp_vars.specs.Literals.{Literal, T, complement, literal_eq, has_literal, value_of, agrees, holds_in}
use Rattle.asp_vars.specs.Resolution.{without}
use Rattle.asp_vars.specs.Conflicts.{has_all, is_closed}
use Rattle.asp_vars.proofs.LiteralLaws.{same_literal}
use Rattle.asp_trail.specs.declared.trail.Entry.{Entry}
use Rattle.asp_trail.specs.Entries.{assignment}
use Rattle.asp_trail.specs.Fixpoint.{is_open, is_violated, is_unit, is_at_fixpoint}
use Rattle.asp_trail.specs.Trails.{IsOrdered}
use Rattle.asp_trail.proofs.HoldLaws.{holds_at, holds_found}
use Rattle.asp_trail.proofs.FixpointLaws.{list_all_at}
use Rattle.asp_trail_laws.specs.Fixpoint.{AreAtFixpoint}
use Rattle.asp_trail_laws.proofs.LitLaws.{all_pass, any_pass, has_at, has_place, has_without}
use Rattle.asp_trail_laws.proofs.PlaceLaws.{blank}

abbrev pub lits : List Entry → List Literal
lits es = map (λ (e : Entry). e.lit) es

-- ---- which literals these are
pub lits_at : (es : List Entry) (i : ℕ) (l : Literal) → i < length es → (get_or es i blank).lit ≡ l → has_literal (lits es) l ≡ true
lits_at es i l h q =
    let fits : i < length (lits es) = omega (arith, h, length-map es (λ (e : Entry). e.lit)) in
    subst (λ (m : Literal). has_literal (lits es) m ≡ true) (get_or-map (λ (e : Entry). e.lit) es i blank (T 0) h ∙ q) (has_at (lits es) i (T 0) fits)

pub lits_place : (es : List Entry) (l : Literal) → has_literal (lits es) l ≡ true → (i : ℕ) × (i < length es) × ((get_or es i blank).lit ≡ l)
lits_place es l h =
    let f = has_place (lits es) l h in
    let fits : f.0 < length es = omega (arith, f.1, length-map es (λ (e : Entry). e.lit)) in
    (f.0, fits, sym (get_or-map (λ (e : Entry). e.lit) es f.0 blank (T 0) fits) ∙ f.2 (T 0))

pub lits_hold : (vars : ℕ) (es : List Entry) (l : Literal) → IsOrdered vars es → has_literal (lits es) l ≡ true → holds_in (assignment vars es) l ≡ true
lits_hold vars es l o h = let f = lits_place es l h in holds_at vars es f.0 blank l o f.1 f.2

pub hold_lits : (vars : ℕ) (es : List Entry) (l : Literal) → IsOrdered vars es → holds_in (assignment vars es) l ≡ true → has_literal (lits es) l ≡ true
hold_lits vars es l o h = let f = holds_found vars es l o h in lits_at es f.0 l f.1 (f.2 blank)

-- ---- one nogood
fixpoint_unviolated : (a : List (Option Bool)) (n : List Literal) → is_at_fixpoint a n ≡ true → is_violated a n ≡ false
fixpoint_unviolated a n c = not-true (is_violated a n) (and_parts (not (is_violated a n)) (not (is_unit a n)) c).0

fixpoint_ununit : (a : List (Option Bool)) (n : List Literal) → is_at_fixpoint a n ≡ true → is_unit a n ≡ false
fixpoint_ununit a n c = not-true (is_unit a n) (and_parts (not (is_violated a n)) (not (is_unit a n)) c).1

beq_not : (b c : Bool) → beq b c ≡ false → beq b (not c) ≡ true
beq_not true true e = sym e
beq_not true false e = refl
beq_not false true e = refl
beq_not false false e = sym e

-- where all others hold, a literal of a nogood at fixpoint is false
pub other_false : (a : List (Option Bool)) (n : List Literal) (l : Literal) → is_at_fixpoint a n ≡ true → has_literal n l ≡ true →
    ((m : Literal) → has_literal n m ≡ true → literal_eq m l ≡ false → holds_in a m ≡ true) → holds_in a (complement l) ≡ true
other_false a n l fixpoint h others = by_value (value_of a l.var) refl
  where
    every : holds_in a l ≡ true → (m : Literal) → has_literal n m ≡ true → (b : Bool) → b ≡ literal_eq m l → holds_in a m ≡ true
    every t m g true q = ap (holds_in a) (same_literal m l (sym q)) ∙ t
    every t m g false q = others m g (sym q)

    each : (m : Literal) → has_literal n m ≡ true → (b : Bool) → b ≡ literal_eq m l → (literal_eq m l || holds_in a m) ≡ true
    each m g true q = or_left (literal_eq m l) (holds_in a m) (sym q)
    each m g false q = or_right (literal_eq m l) (holds_in a m) (others m g (sym q))

    not_open : is_open a l ≡ true → ⊥
    not_open t = false≢true (sym (fixpoint_ununit a n fixpoint)
        ∙ any_pass (λ x. is_open a x && list_all (λ k. literal_eq k x || holds_in a k) n) n l h
        (and_from (is_open a l) (list_all (λ k. literal_eq k l || holds_in a k) n) t (all_pass (λ k. literal_eq k l || holds_in a k) n (λ m g. each m g (literal_eq m l) refl))))

    not_true : holds_in a l ≡ true → ⊥
    not_true t = false≢true (sym (fixpoint_unviolated a n fixpoint) ∙ all_pass (holds_in a) n (λ m g. every t m g (literal_eq m l) refl))

    by_value : (v : Option Bool) → v ≡ value_of a l.var → agrees (value_of a l.var) (complement l) ≡ true
    by_value None q = absurd (not_open (ap is_none (sym q)))
    by_value (Some b) q = ap (λ v. agrees v (complement l)) (sym q) ∙ beq_not b l.truth (false_from_ne_true (beq b l.truth) (λ t. not_true (ap (λ v. agrees v l) (sym q) ∙ t)))

-- ---- all nogoods
module _ (vars : ℕ) (es : List Entry) (o : IsOrdered vars es) where
  closed_at : (n : List Literal) → is_at_fixpoint (assignment vars es) n ≡ true → (l : Literal) → has_literal n l ≡ true →
      (not (has_all (lits es) (without l n)) || has_literal (lits es) (complement l)) ≡ true
  closed_at n fixpoint l h = cases (has_all (lits es) (without l n)) refl
    where
      cases : (b : Bool) → b ≡ has_all (lits es) (without l n) → (not b || has_literal (lits es) (complement l)) ≡ true
      cases false q = refl
      cases true q =
          hold_lits vars es (complement l) o (other_false (assignment vars es) n l fixpoint h (λ m g ne.
          lits_hold vars es m o (list_all_at (has_literal (lits es)) (without l n) m (sym q) (has_without l n m g ne))))

  pub closed_all : (ns : List (List Literal)) → AreAtFixpoint vars ns es → is_closed ns (lits es) ≡ true
  closed_all [] c = refl
  closed_all (n ∷ ns) c =
      and_from (list_all (λ l. not (has_all (lits es) (without l n)) || has_literal (lits es) (complement l)) n) (is_closed ns (lits es))
      (all_pass (λ l. not (has_all (lits es) (without l n)) || has_literal (lits es) (complement l)) n (closed_at n c.0)) (closed_all ns c.1)

  pub none_within : (ns : List (List Literal)) → AreAtFixpoint vars ns es → list_any (has_all (lits es)) ns ≡ false
  none_within [] c = refl
  none_within (n ∷ ns) c =
      or_from (has_all (lits es) n) (list_any (has_all (lits es)) ns)
      (false_from_ne_true (has_all (lits es) n) (λ h.
      false≢true (sym (fixpoint_unviolated (assignment vars es) n c.0) ∙ all_pass (holds_in (assignment vars es)) n (λ l g. lits_hold vars es l o (list_all_at (has_literal (lits es)) n l h g)))))
      (none_within ns c.1)

  pub no_clash : (l : Literal) → has_literal (lits es) l ≡ true → has_literal (lits es) (complement l) ≡ false
  no_clash l h = false_from_ne_true (has_literal (lits es) (complement l)) (λ g. both (value_of (assignment vars es) l.var) (lits_hold vars es l o h) (lits_hold vars es (complement l) o g))
    where
      unequal : (b c : Bool) → beq b c ≡ true → beq b (not c) ≡ true → ⊥
      unequal true true p q = false≢true q
      unequal true false p q = false≢true p
      unequal false true p q = false≢true p
      unequal false false p q = false≢true q

      both : (v : Option Bool) → agrees v l ≡ true → agrees v (complement l) ≡ true → ⊥
      both None p q = false≢true p
      both (Some b) p q = unequal b l.truth p q
