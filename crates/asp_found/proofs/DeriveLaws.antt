-- One derivation after another.
use Rattle.std.proofs.Common.{◌≡◌, ℕ, ◌+◌, ◌<◌, ◌≤◌, Bool, true, false, not, cond, ◌&&◌, ◌||◌, eqb, List, [], ◌∷◌, length, get_or, set, refl, sym, ap, ◌∙◌, subst, arith, ◌⊎◌, inl, inr, length-append}
use Rattle.std.specs.Prelude.{fold, All}
use Rattle.std.specs.List.{count_by}
use Rattle.std.proofs.lemmas.Bool.{false≢true, and_parts, and_from, eqb-true, eq-eqb}
use Rattle.std.proofs.lemmas.List.{get_or-set_same, get_or-set_other}
use Rattle.std.proofs.Math.ListN.{length-set}
use Rattle.std.proofs.lemmas.List.Sums.{sum_by-set}
use Rattle.std.proofs.lemmas.List.Elements.{All-head, All-tail, All-weaker}
use Rattle.asp_model.specs.Sets.{has}
use Rattle.asp_found.specs.Marks.{is_marked, derive}

-- ---- one atom
-- what a derivation from these heads leaves
pub record Derived (marked_ : List Bool) (heads : List ℕ) (s t : List Bool × List ℕ) : Type 0 where
  pub size : length t.0 ≡ length s.0
  pub kept : (v : ℕ) → is_marked s.0 v ≡ true → is_marked t.0 v ≡ true
  pub done : (v : ℕ) → has heads v ≡ true → is_marked marked_ v ≡ true → is_marked t.0 v ≡ true
  pub new : (v : ℕ) → is_marked t.0 v ≡ true → (is_marked s.0 v ≡ true) ⊎ ((has heads v ≡ true) × (is_marked marked_ v ≡ true))
  pub grows : length s.1 ≤ length t.1
  pub same : length t.1 ≡ length s.1 → t.0 ≡ s.0
  pub room : count_by not t.0 + length t.1 ≡ count_by not s.0 + length s.1

or_left : (a b : Bool) → a ≡ true → (a || b) ≡ true
or_left true b e = refl
or_left false b e = absurd (false≢true e)

or_right : (a b : Bool) → b ≡ true → (a || b) ≡ true
or_right true b e = refl
or_right false b e = e

not_true : (b : Bool) → not b ≡ true → b ≡ false
not_true true e = absurd (false≢true e)
not_true false e = refl

one : (S : List Bool) (s : List Bool × List ℕ) (v : ℕ) → v < length s.0 → Derived S (v ∷ []) s (derive S s v)
one S s v lt = cases (is_marked S v && not (is_marked s.0 v)) refl
  where
    only : (w : ℕ) → has (v ∷ []) w ≡ true → v ≡ w
    only w e = single (eqb v w) refl e
      where
        single : (b : Bool) → b ≡ eqb v w → (eqb v w || false) ≡ true → v ≡ w
        single true q e = eqb-true v w (sym q)
        single false q e = absurd (false≢true (ap (λ b. b || false) q ∙ e))

    there : (w : ℕ) (b : Bool) → b ≡ eqb v w → is_marked s.0 w ≡ true → is_marked (set s.0 v true) w ≡ true
    there w true q e = subst (λ (x : ℕ). is_marked (set s.0 v true) x ≡ true) (eqb-true v w (sym q)) (get_or-set_same s.0 v true false lt)
    there w false q e = get_or-set_other s.0 v w true false (λ z. false≢true (q ∙ eq-eqb v w (sym z))) ∙ e

    fresh : (w : ℕ) → is_marked S v ≡ true → (b : Bool) → b ≡ eqb v w → is_marked (set s.0 v true) w ≡ true → (is_marked s.0 w ≡ true) ⊎ ((has (v ∷ []) w ≡ true) × (is_marked S w ≡ true))
    fresh w inside true q e = inr (ap (λ b. b || false) (sym q), subst (λ (x : ℕ). is_marked S x ≡ true) (eqb-true v w (sym q)) inside)
    fresh w inside false q e = inl (sym (get_or-set_other s.0 v w true false (λ z. false≢true (q ∙ eq-eqb v w (sym z)))) ∙ e)

    already : (w : ℕ) → false ≡ (is_marked S v && not (is_marked s.0 v)) → v ≡ w → is_marked S w ≡ true → (b : Bool) → b ≡ is_marked s.0 v → is_marked s.0 w ≡ true
    already w q is inside true e = subst (λ (x : ℕ). is_marked s.0 x ≡ true) is (sym e)
    already w q is inside false e =
        absurd (false≢true (q ∙ and_from (is_marked S v) (not (is_marked s.0 v)) (subst (λ (x : ℕ). is_marked S x ≡ true) (sym is) inside) (ap not (sym e))))

    cases : (b : Bool) → b ≡ (is_marked S v && not (is_marked s.0 v)) → Derived S (v ∷ []) s (derive S s v)
    cases true q =
        let parts = and_parts (is_marked S v) (not (is_marked s.0 v)) (sym q) in
        let f : Bool → ℕ = λ b. cond (not b) 1 0 in
        let changed = sum_by-set f s.0 v true false lt in
        let was : f (get_or s.0 v false) ≡ 1 = ap (λ b. cond b 1 0) parts.1 in
        rw (← q) record {
          size = length-set s.0 v true;
          kept = λ w e. there w (eqb v w) refl e;
          done = λ w e inside. subst (λ (x : ℕ). is_marked (set s.0 v true) x ≡ true) (only w e) (get_or-set_same s.0 v true false lt);
          new = λ w e. fresh w parts.0 (eqb v w) refl e;
          grows = omega (arith, length-append s.1 (v ∷ []));
          same = λ e. absurd (omega (arith, e, length-append s.1 (v ∷ [])));
          room = omega (arith, changed, was, length-append s.1 (v ∷ []));
        }
    cases false q = rw (← q) record {
      size = refl;
      kept = λ w e. e;
      done = λ w e inside. already w q (only w e) inside (is_marked s.0 v) refl;
      new = λ w e. inl e;
      grows = omega arith;
      same = λ e. refl;
      room = refl;
    }

-- ---- a list of heads
pub all_derived : (S : List Bool) (heads : List ℕ) (s : List Bool × List ℕ) → All (λ v. v < length s.0) heads → Derived S heads s (fold (derive S) s heads)
all_derived S [] s h = record {
  size = refl;
  kept = λ v e. e;
  done = λ v e inside. absurd (false≢true e);
  new = λ v e. inl e;
  grows = omega arith;
  same = λ e. refl;
  room = refl;
}
all_derived S (v ∷ heads) s h =
    let first = one S s v (All-head (λ w. w < length s.0) v heads h) in
    let t : List Bool × List ℕ = derive S s v in
    let rest = all_derived S heads t (All-weaker (λ w. w < length s.0) (λ w. w < length t.0) (λ w lt. let z = first.size in omega (arith, lt, z)) heads (All-tail (λ w. w < length s.0) v heads h)) in
    let g1 = first.grows in let g2 = rest.grows in
    record {
      size = rest.size ∙ first.size;
      kept = λ w e. rest.kept w (first.kept w e);
      done = λ w e inside. done w (eqb v w) refl e inside (first.done w) (rest.kept w) (rest.done w);
      new = λ w e. elim (rest.new w e) [
        | inl old ↦ elim (first.new w old) [ inl before ↦ inl before | inr here ↦ inr (widen w here.0, here.1) ]
        | inr later ↦ inr (or_right (eqb v w) (has heads w) later.0, later.1)
      ];
      grows = omega (arith, g1, g2);
      same = λ e. rest.same (omega (arith, g1, g2, e)) ∙ first.same (omega (arith, g1, g2, e));
      room = rest.room ∙ first.room;
    }
  where
    widen : (w : ℕ) → has (v ∷ []) w ≡ true → has (v ∷ heads) w ≡ true
    widen w e = grow (eqb v w) e
      where
        grow : (b : Bool) → (b || false) ≡ true → (b || has heads w) ≡ true
        grow true e = refl
        grow false e = absurd (false≢true e)

    done : (w : ℕ) (b : Bool) → b ≡ eqb v w → (eqb v w || has heads w) ≡ true → is_marked S w ≡ true →
        (has (v ∷ []) w ≡ true → is_marked S w ≡ true → is_marked (derive S s v).0 w ≡ true) →
        (is_marked (derive S s v).0 w ≡ true → is_marked (fold (derive S) (derive S s v) heads).0 w ≡ true) →
        (has heads w ≡ true → is_marked S w ≡ true → is_marked (fold (derive S) (derive S s v) heads).0 w ≡ true) →
        is_marked (fold (derive S) (derive S s v) heads).0 w ≡ true
    done w true q e inside here kept later = kept (here (ap (λ b. b || false) (sym q)) inside)
    done w false q e inside here kept later = later (ap (λ b. b || has heads w) q ∙ e) inside
