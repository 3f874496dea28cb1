-- A nogood, literal by literal.
use Rattle.std.proofs.Common.{◌≡◌, ◌≢◌, ℕ, ◌+◌, Bool, true, false, not, ◌&&◌, ◌||◌, List, [], ◌∷◌, ◌++◌, length, eqb, refl, sym, ap, ◌∙◌, arith, Option, Some, None, set, ◌⊎◌, get_or-set_other, ◌<◌, ◌≤◌, inl, inr, take, drop, get_or, subst, All}
use Rattle.std.specs.List.{list_all, AllByRecursion}
use Rattle.std.specs.Bool.{beq}
use Rattle.std.proofs.lemmas.Bool.{false≢true, and_parts, and_from, or_left, or_right, eqb-true, eq-eqb}
use Rattle.std.proofs.lemmas.List.Folds.{list_all-append, list_any-append}
use Rattle.std.proofs.lemmas.List.{take_all, take_more, take-append-drop}
use Rattle.std.proofs.lemmas.List.Elements.{recursion_from_All}
use Rattle.asp_vars.specs.Literals.{Literal, complement, literal_eq, value_of, agrees, holds_in, has_literal}
use Rattle.asp_vars.proofs.LiteralLaws.{same_literal}
use Rattle.asp_checker.specs.declared.nogoods.Look.{Look}
use Rattle.asp_checker.specs.declared.nogoods.Look.TheVariants as look
use Rattle.asp_checker.specs.Looks.{IsAtFixpoint, IsUnit, IsSeen}
use Rattle.asp_checker.proofs.StepLaws.{value-held}

-- where one literal fails, not all hold
one_fails : (x : List (Option Bool)) (n : List Literal) (l : Literal) → has_literal n l ≡ true → holds_in x l ≡ false → list_all (holds_in x) n ≡ false
one_fails x n l among fails = cases (list_all (holds_in x) n) refl
  where
    has_all : (m : List Literal) → has_literal m l ≡ true → list_all (holds_in x) m ≡ true → ⊥
    has_all [] h e = false≢true h
    has_all (k ∷ m) h e = (elim (literal_eq k l) as (λ v. literal_eq k l ≡ v → (v || has_literal m l) ≡ true → ⊥) [
      | true ↦ λ q i. false≢true (sym fails ∙ ap (holds_in x) (sym (same_literal k l q)) ∙ (and_parts (holds_in x k) (list_all (holds_in x) m) e).0)
      | false ↦ λ q i. has_all m i (and_parts (holds_in x k) (list_all (holds_in x) m) e).1
    ]) refl h

    cases : (v : Bool) → list_all (holds_in x) n ≡ v → v ≡ false
    cases false q = refl
    cases true q = absurd (has_all n among q)

literal_itself : (l : Literal) → literal_eq l l ≡ true
literal_itself l = and_from (eqb l.var l.var) (beq l.truth l.truth) (eq-eqb l.var l.var refl) (same l.truth)
  where
    same : (b : Bool) → beq b b ≡ true
    same true = refl
    same false = refl

last_among : (n : List Literal) (l : Literal) → has_literal (n ++ l ∷ []) l ≡ true
last_among n l = list_any-append (λ k. literal_eq k l) n (l ∷ []) ∙ or_right (has_literal n l) (literal_eq l l || false) (or_left (literal_eq l l) false (literal_itself l))

among_more : (n : List Literal) (k l : Literal) → has_literal n l ≡ true → has_literal (n ++ k ∷ []) l ≡ true
among_more n k l h = list_any-append (λ m. literal_eq m l) n (k ∷ []) ∙ or_left (has_literal n l) (has_literal (k ∷ []) l) h

-- ---- values
clash_of : (o : Option Bool) (l : Literal) → agrees o (complement l) ≡ true → agrees o l ≡ false
clash_of None l e = refl
clash_of (Some b) l e = cases b l.truth e
  where
    cases : (b t : Bool) → beq b (not t) ≡ true → beq b t ≡ false
    cases true true e = absurd (false≢true e)
    cases true false e = refl
    cases false true e = refl
    cases false false e = absurd (false≢true e)

no_value : (o : Option Bool) (l : Literal) → agrees o l ≡ false → agrees o (complement l) ≡ false → o ≡ None
no_value None l e f = refl
no_value (Some b) l e f = absurd (cases b l.truth e f)
  where
    cases : (b t : Bool) → beq b t ≡ false → beq b (not t) ≡ false → ⊥
    cases true true e f = false≢true (sym e)
    cases true false e f = false≢true (sym f)
    cases false true e f = false≢true (sym f)
    cases false false e f = false≢true (sym e)

none_holds : (x : List (Option Bool)) (l : Literal) → value_of x l.var ≡ None → holds_in x l ≡ false
none_holds x l e = ap (λ o. agrees o l) e

some_or_none : (b : Bool) (o : Option Bool) → o ≡ Some b → o ≡ None → ⊥
some_or_none b o e f = absurd cc

-- one value more changes no other variable
other_value : (x : List (Option Bool)) (v : ℕ) (b : Bool) (l : Literal) → l.var ≢ v → holds_in (set x v (Some b)) l ≡ holds_in x l
other_value x v b l ne = let other : l.var ≢ v = ne in ap (λ o. agrees o l) (get_or-set_other x v l.var (Some b) None other)

-- ---- one literal more
failed : (x : List (Option Bool)) (n : List Literal) (l : Literal) → holds_in x (complement l) ≡ true → has_literal n l ≡ true → IsAtFixpoint x n
failed x n l fails among = record {
  now = one_fails x n l among (clash_of (value_of x l.var) l fails);
  one_more = λ v b e.
      let other : l.var ≢ v = λ same. some_or_none (not l.truth) (value_of x l.var) (value-held x (complement l) fails) (ap (value_of x) same ∙ e) in
      one_fails (set x v (Some b)) n l among (other_value x v b l other ∙ clash_of (value_of x l.var) l fails);
}

pub with_failed : (x : List (Option Bool)) (l : Literal) → holds_in x (complement l) ≡ true → (n : List Literal) → IsAtFixpoint x (n ++ l ∷ [])
with_failed x l fails n = failed x (n ++ l ∷ []) l fails (last_among n l)

still_false : (p : Literal → Bool) (n m : List Literal) → list_all p n ≡ false → list_all p (n ++ m) ≡ false
still_false p n m e = list_all-append p n m ∙ ap (λ b. b && list_all p m) e

pub fixpoint_more : (x : List (Option Bool)) (n m : List Literal) → IsAtFixpoint x n → IsAtFixpoint x (n ++ m)
fixpoint_more x n m h = record { now = still_false (holds_in x) n m h.now; one_more = λ v b e. still_false (holds_in (set x v (Some b))) n m (h.one_more v b e) }

one_more_passes : (p : Literal → Bool) (n : List Literal) (l : Literal) → list_all p n ≡ true → p l ≡ true → list_all p (n ++ l ∷ []) ≡ true
one_more_passes p n l h e = list_all-append p n (l ∷ []) ∙ and_from (list_all p n) (p l && true) h (and_from (p l) true e refl)

pub with_held : (x : List (Option Bool)) (l : Literal) (seen : Look) → holds_in x l ≡ true → (n : List Literal) → IsSeen x n seen → IsSeen x (n ++ l ∷ []) seen
with_held x l look.Fixpoint held n h = fixpoint_more x n (l ∷ []) h
with_held x l (look.Unit k) held n h = record {
  others = one_more_passes (λ m. literal_eq m k || holds_in x m) n l h.others (or_right (literal_eq l k) (holds_in x l) held);
  no_value = h.no_value;
  among = among_more n l k h.among;
}
with_held x l look.Violated held n h = one_more_passes (holds_in x) n l h held

weaker_all : (p q : Literal → Bool) → ((l : Literal) → p l ≡ true → q l ≡ true) → (n : List Literal) → list_all p n ≡ true → list_all q n ≡ true
weaker_all p q w [] h = refl
weaker_all p q w (l ∷ n) h = let parts = and_parts (p l) (list_all p n) h in and_from (q l) (list_all q n) (w l parts.0) (weaker_all p q w n parts.1)

pub with_open : (x : List (Option Bool)) (l : Literal) → holds_in x l ≡ false → holds_in x (complement l) ≡ false → (n : List Literal) → list_all (holds_in x) n ≡ true → IsUnit x (n ++ l ∷ []) l
with_open x l a b n h = record {
  others = one_more_passes (λ m. literal_eq m l || holds_in x m) n l
      (weaker_all (holds_in x) (λ m. literal_eq m l || holds_in x m) (λ m e. or_right (literal_eq m l) (holds_in x m) e) n h)
      (or_left (literal_eq l l) (holds_in x l) (literal_itself l));
  no_value = no_value (value_of x l.var) l a b;
  among = last_among n l;
}

pub with_same : (x : List (Option Bool)) (k l : Literal) → literal_eq k l ≡ true → (n : List Literal) → IsUnit x n k → IsUnit x (n ++ l ∷ []) k
with_same x k l same n h = record {
  others = one_more_passes (λ m. literal_eq m k || holds_in x m) n l h.others (or_left (literal_eq l k) (holds_in x l) (ap (λ m. literal_eq m k) (sym (same_literal k l same)) ∙ literal_itself k));
  no_value = h.no_value;
  among = among_more n l k h.among;
}

beq_self : (b : Bool) → beq b b ≡ true
beq_self true = refl
beq_self false = refl

one_truth : (a b : Bool) (o : Option Bool) → o ≡ Some a → o ≡ Some b → a ≡ b
one_truth a b o e f = cc

-- Two literals that hold, of which the variables are the same, are the same.
one_literal : (y : List (Option Bool)) (k l : Literal) → holds_in y k ≡ true → holds_in y l ≡ true → k.var ≡ l.var → literal_eq k l ≡ true
one_literal y k l p q same =
    let truth = one_truth k.truth l.truth (value_of y k.var) (value-held y k p) (ap (value_of y) same ∙ value-held y l q) in
    and_from (eqb k.var l.var) (beq k.truth l.truth) (eq-eqb k.var l.var same) (ap (beq k.truth) (sym truth) ∙ beq_self k.truth)

not_both : (a b : Bool) → (a ≡ true → b ≡ true → ⊥) → (a ≡ false) ⊎ (b ≡ false)
not_both false b h = inl refl
not_both true false h = inr refl
not_both true true h = absurd (h refl refl)

-- With one value more not both of them hold.
not_both_hold : (x : List (Option Bool)) (k l : Literal) (v : ℕ) (t : Bool) → holds_in x k ≡ false → holds_in x l ≡ false → literal_eq k l ≡ false →
    holds_in (set x v (Some t)) k ≡ true → holds_in (set x v (Some t)) l ≡ true → ⊥
not_both_hold x k l v t a b differ p q =
    let first = at_place k a p in
    let second = at_place l b q in
    false≢true (sym differ ∙ one_literal (set x v (Some t)) k l p q (first ∙ sym second))
  where
    at_place : (m : Literal) → holds_in x m ≡ false → holds_in (set x v (Some t)) m ≡ true → m.var ≡ v
    at_place m none now = (elim (eqb m.var v) as (λ w. eqb m.var v ≡ w → m.var ≡ v) [
      | true ↦ λ e. eqb-true m.var v e
      | false ↦ λ e. absurd (false≢true (sym none ∙ sym (other_value x v t m (λ same. false≢true (sym e ∙ eq-eqb m.var v same))) ∙ now))
    ]) refl

two_open : (x : List (Option Bool)) (n : List Literal) (k l : Literal) → has_literal n k ≡ true → has_literal n l ≡ true → holds_in x k ≡ false →
    holds_in x l ≡ false → literal_eq k l ≡ false → IsAtFixpoint x n
two_open x n k l a b none also differ = record {
  now = one_fails x n l b also;
  one_more = λ v t e.
      let y : List (Option Bool) = set x v (Some t) in
      elim (not_both (holds_in y k) (holds_in y l) (not_both_hold x k l v t none also differ)) [ inl p ↦ one_fails y n k a p | inr q ↦ one_fails y n l b q ];
}

pub with_second : (x : List (Option Bool)) (k l : Literal) → holds_in x l ≡ false → literal_eq k l ≡ false → (n : List Literal) → IsUnit x n k → IsAtFixpoint x (n ++ l ∷ [])
with_second x k l none differ n h = two_open x (n ++ l ∷ []) k l (among_more n l k h.among) (last_among n l) (none_holds x k h.no_value) none differ

-- ---- as far as a nogood was read
pub seen_more : (x : List (Option Bool)) (lits : List Literal) (i : ℕ) (l : Literal) (seen : Look) → i < length lits → l ≡ get_or lits i l →
    IsSeen x (take i lits ++ l ∷ []) seen → IsSeen x (take (i + 1) lits) seen
seen_more x lits i l seen lt is h = subst (λ (n : List Literal). IsSeen x n seen) (ap (λ k. take i lits ++ k ∷ []) is ∙ sym (take_more lits i l lt)) h

pub fixpoint_whole : (x : List (Option Bool)) (lits : List Literal) (i : ℕ) → IsAtFixpoint x (take i lits) → IsAtFixpoint x lits
fixpoint_whole x lits i h = subst (IsAtFixpoint x) (take-append-drop i lits) (fixpoint_more x (take i lits) (drop i lits) h)

pub seen_whole : (x : List (Option Bool)) (lits : List Literal) (i : ℕ) (seen : Look) → length lits ≤ i → IsSeen x (take i lits) seen → IsSeen x lits seen
seen_whole x lits i seen le h = subst (λ (n : List Literal). IsSeen x n seen) (take_all i lits le) h

pub among_range : (m : ℕ) (n : List Literal) (l : Literal) → AllByRecursion (λ k. k.var < m) n → has_literal n l ≡ true → l.var < m
among_range m [] l h e = absurd (false≢true e)
among_range m (k ∷ n) l h e = (elim (literal_eq k l) as (λ v. literal_eq k l ≡ v → (v || has_literal n l) ≡ true → l.var < m) [
  | true ↦ λ q i. let same = ap (λ (o : Literal). o.var) (same_literal k l q) in omega (arith, same, h.0)
  | false ↦ λ q i. among_range m n l h.1 i
]) refl e

pub unit_range : (x : List (Option Bool)) (n : List Literal) (l : Literal) → All (λ k. k.var < length x) n → IsUnit x n l → l.var < length x
unit_range x n l h u = among_range (length x) n l (recursion_from_All (λ k. k.var < length x) n h) u.among
