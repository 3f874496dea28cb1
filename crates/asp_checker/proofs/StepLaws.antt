-- What nogoods, weight bodies and propagated values say.
use Rattle.std.proofs.Common.{◌≡◌, ◌≢◌, ◌<◌, ◌≤◌, Bool, true, false, not, ◌||◌, List, [], ◌∷◌, length, eqb, refl, sym, ap, ◌∙◌, arith, Option, Some, None, set, inl, inr, get_or-set_same, get_or-set_other}
use Rattle.std.specs.List.{list_all, list_any}
use Rattle.std.specs.Bool.{beq}
use Rattle.std.proofs.lemmas.Bool.{false≢true, and_parts, and_from, or_cases, or_parts, eqb-true, eq-eqb}
use Rattle.asp_model.specs.declared.program.Program.{Program}
use Rattle.asp_vars.specs.Literals.{Literal, complement, literal_eq, value_of, agrees, holds_in}
use Rattle.asp_vars.specs.Numbering.{bodies_of, var_count}
use Rattle.asp_vars.proofs.LiteralLaws.{same_literal}
use Rattle.asp_checker.specs.Propagation.{Known, is_broken, reaches_bound, has_conflict, IsPropagated, LeadsToConflict}
use Rattle.asp_checker.specs.Steps.{AreWithin, Follow, Forced, IsKnown, is_unit}

-- ---- values within others
same-truth : (b t : Bool) → beq b t ≡ true → b ≡ t
same-truth true true e = refl
same-truth false false e = refl
same-truth true false e = absurd (false≢true e)
same-truth false true e = absurd (false≢true e)

truth-itself : (t : Bool) → beq t t ≡ true
truth-itself true = refl
truth-itself false = refl

-- a literal that holds, by its variable's value
pub value-held : (x : List (Option Bool)) (l : Literal) → holds_in x l ≡ true → value_of x l.var ≡ Some l.truth
value-held x l e = cases (value_of x l.var) refl
  where
    cases : (o : Option Bool) → o ≡ value_of x l.var → value_of x l.var ≡ Some l.truth
    cases None q = absurd (false≢true (ap (λ o. agrees o l) q ∙ e))
    cases (Some b) q = sym q ∙ ap (λ t. let o : Option Bool = Some t in o) (same-truth b l.truth (ap (λ o. agrees o l) q ∙ e))

pub held-value : (x : List (Option Bool)) (l : Literal) → value_of x l.var ≡ Some l.truth → holds_in x l ≡ true
held-value x l e = ap (λ o. agrees o l) e ∙ truth-itself l.truth

pub held-within : (x y : List (Option Bool)) (l : Literal) → AreWithin x y → holds_in x l ≡ true → holds_in y l ≡ true
held-within x y l w e = held-value y l (w l.var l.truth (value-held x l e))

-- ---- nogoods
no-conflict : (p : Program) (k : Known) (x : List (Option Bool)) (n : List Literal) → has_conflict p k x ≡ false → IsKnown k n → list_all (holds_in x) n ≡ true → ⊥
no-conflict p k x n e known h =
    let first = or_parts (list_any (λ m. list_all (holds_in x) m) k.nogoods || list_any (is_broken p x) (bodies_of p)) (reaches_bound p k.bound x) e in
    let hit = or_parts (list_any (λ m. list_all (holds_in x) m) k.nogoods) (list_any (is_broken p x) (bodies_of p)) first.0 in
    false≢true (sym hit.0 ∙ known (λ m. list_all (holds_in x) m) h)

all-hold : (x z : List (Option Bool)) (n : List Literal) (l : Literal) → ((m : Literal) → holds_in x m ≡ true → holds_in z m ≡ true) →
    holds_in z l ≡ true → is_unit x n l ≡ true → list_all (holds_in z) n ≡ true
all-hold x z [] l more here e = refl
all-hold x z (m ∷ n) l more here e =
    let parts = and_parts (literal_eq m l || holds_in x m) (is_unit x n l) e in
    and_from (holds_in z m) (list_all (holds_in z) n)
    (elim (or_cases (literal_eq m l) (holds_in x m) parts.0) [ inl same ↦ ap (holds_in z) (same_literal m l same) ∙ here | inr held ↦ more m held ])
    (all-hold x z n l more here parts.1)

-- Of a nogood all of whose other literals hold, the last one is false.
pub unit-forces : (p : Program) (k : Known) (x : List (Option Bool)) (n : List Literal) (l : Literal) → IsKnown k n → 0 < l.var →
    l.var ≤ var_count p → is_unit x n l ≡ true → Forced p k x (complement l)
unit-forces p k x n l known i le unit y propagated within = cases (value_of y l.var) refl
  where
    cases : (o : Option Bool) → o ≡ value_of y l.var → holds_in y (complement l) ≡ true
    cases None q =
        let z : List (Option Bool) = set y l.var (Some l.truth) in
        let inside : l.var < length y = let s = propagated.size in omega arith in
        let here : holds_in z l ≡ true = held-value z l (get_or-set_same y l.var (Some l.truth) None inside) in
        let more : (m : Literal) → holds_in x m ≡ true → holds_in z m ≡ true = λ m held.
        let in_y : value_of y m.var ≡ Some m.truth = within m.var m.truth (value-held x m held) in
        let apart : m.var ≢ l.var = λ same. let s : value_of y l.var ≡ Some m.truth = ap (value_of y) (sym same) ∙ in_y in let none : value_of y l.var ≡ None = sym q in cc in
        held-value z m (get_or-set_other y l.var m.var (Some l.truth) None apart ∙ in_y) in
        absurd (no-conflict p k z n (propagated.one_more l.var l.truth i le (sym q)) known (all-hold x z n l more here unit))
    cases (Some b) q = by-truth (beq b l.truth) refl
      where
        other : (a t : Bool) → beq a t ≡ false → beq a (not t) ≡ true
        other true true e = absurd (false≢true (sym e))
        other true false e = refl
        other false true e = refl
        other false false e = absurd (false≢true (sym e))

        by-truth : (t : Bool) → t ≡ beq b l.truth → holds_in y (complement l) ≡ true
        by-truth true s = absurd (no-conflict p k y n propagated.now known (all-hold x y n l (λ m held. held-within x y m within held) (ap (λ o. agrees o l) (sym q) ∙ sym s) unit))
        by-truth false s = ap (λ o. agrees o (complement l)) (sym q) ∙ other b l.truth (sym s)

-- Where all literals of a nogood hold, no propagated values have these.
pub violated-conflicts : (p : Program) (k : Known) (x : List (Option Bool)) (n m : List Literal) → IsKnown k m → Follow p k n x → list_all (holds_in x) m ≡ true → LeadsToConflict p k n
violated-conflicts p k x n m known follow h = record { none = λ y propagated. cases y propagated (list_all (holds_in y) n) refl }
  where
    all-within : (y : List (Option Bool)) → AreWithin x y → (ls : List Literal) → list_all (holds_in x) ls ≡ true → list_all (holds_in y) ls ≡ true
    all-within y w [] e = refl
    all-within y w (l ∷ ls) e =
        let parts = and_parts (holds_in x l) (list_all (holds_in x) ls) e in
        and_from (holds_in y l) (list_all (holds_in y) ls) (held-within x y l w parts.0) (all-within y w ls parts.1)

    cases : (y : List (Option Bool)) → IsPropagated p k y → (b : Bool) → b ≡ list_all (holds_in y) n → list_all (holds_in y) n ≡ false
    cases y propagated false q = sym q
    cases y propagated true q = absurd (no-conflict p k y m propagated.now known (all-within y (follow y propagated (sym q)) m h))

-- ---- one value more
pub follow-more : (p : Program) (k : Known) (n : List Literal) (x : List (Option Bool)) (l : Literal) → l.var < length x → Follow p k n x → Forced p k x l → Follow p k n (set x l.var (Some l.truth))
follow-more p k n x l inside follow forced y propagated h v b e =
    let w = follow y propagated h in
    let in_y : value_of y l.var ≡ Some l.truth = value-held y l (forced y propagated w) in
    cases w in_y (eqb v l.var) refl
  where
    cases : AreWithin x y → value_of y l.var ≡ Some l.truth → (t : Bool) → t ≡ eqb v l.var → value_of y v ≡ Some b
    cases w in_y true q =
        let same : v ≡ l.var = eqb-true v l.var (sym q) in
        let now : value_of (set x l.var (Some l.truth)) v ≡ Some l.truth = ap (value_of (set x l.var (Some l.truth))) same ∙ get_or-set_same x l.var (Some l.truth) None inside in
        ap (value_of y) same ∙ in_y ∙ sym now ∙ e
    cases w in_y false q =
        let apart : v ≢ l.var = λ same. false≢true (q ∙ eq-eqb v l.var same) in
        w v b (sym (get_or-set_other x l.var v (Some l.truth) None apart) ∙ e)

-- Propagated values in which the literals hold show that no conflict follows.
pub propagated-refutes : (p : Program) (k : Known) (n : List Literal) (x : List (Option Bool)) → IsPropagated p k x → list_all (holds_in x) n ≡ true → LeadsToConflict p k n → ⊥
propagated-refutes p k n x propagated h conflict = false≢true (sym (conflict.none x propagated) ∙ h)
