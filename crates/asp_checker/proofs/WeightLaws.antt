-- What weight bodies force.
use Rattle.std.proofs.Common.{◌≡◌, ◌≢◌, ℕ, zero, suc, ◌<◌, ◌≤◌, Bool, true, false, not, cond, ◌&&◌, ◌||◌, eqb, List, [], ◌∷◌, length, refl, sym, ap, ◌∙◌, arith, Option, Some, None, get_or, set, get_or-set_same, get_or-set_other}
use Rattle.std.specs.Prelude.{ℤ, pos, ◌+ℤ◌, ◌≤ℤ◌, ◌<ℤ◌, int_lt, int_le}
use Rattle.std.specs.List.{list_all, list_any}
use Rattle.std.specs.Bool.{beq}
use Rattle.std.proofs.lemmas.Bool.{false≢true, and_from, or_parts, eqb-true, eq-eqb}
use Rattle.std.proofs.lemmas.Int.{ints}
use Rattle.asp_model.specs.declared.program.Body.{Body}
use Rattle.asp_model.specs.declared.program.Body.TheVariants as body
use Rattle.asp_model.specs.declared.program.Program.{Program}
use Rattle.asp_vars.specs.Literals.{Literal, T, F, complement, value_of, agrees, holds_in}
use Rattle.asp_vars.specs.Numbering.{bodies_of, var_count, var_of_form, literal_of}
use Rattle.asp_loop.proofs.WeightedLaws.{AreItems}
use Rattle.asp_vars.proofs.StandingLaws.{Among}
use Rattle.asp_checker.specs.Propagation.{Known, may_hold, weight_by, is_broken, reaches_bound, has_conflict}
use Rattle.asp_checker.specs.Steps.{AreWithin, Forced}
use Rattle.asp_checker.proofs.StepLaws.{held-within, value-held, held-value}

-- ---- sums
less : (b c : Bool) (w : ℤ) → pos 0 ≤ℤ w → (b ≡ true → c ≡ true) → cond b w (pos 0) ≤ℤ cond c w (pos 0)
less true true w p f = omega (arith, ints)
less true false w p f = absurd (false≢true (f refl))
less false true w p f = p
less false false w p f = omega (arith, ints)

weight-more : (s t : Literal → Bool) (p : Program) (items : List (ℤ × ℤ)) → AreItems items → ((l : Literal) → s l ≡ true → t l ≡ true) → weight_by s p items ≤ℤ weight_by t p items
weight-more s t p [] weighted f = omega (arith, ints)
weight-more s t p (i ∷ items) weighted f =
    let a = less (s (literal_of p i.0)) (t (literal_of p i.0)) i.1 weighted.0 (f (literal_of p i.0)) in
    let b = weight-more s t p items weighted.1 f in
    omega (arith, ints, a, b)

-- an item that passes the one test alone
weight-apart : (s t : Literal → Bool) (p : Program) (items : List (ℤ × ℤ)) (k : ℕ) (d : ℤ × ℤ) → AreItems items →
    ((m : Literal) → s m ≡ true → t m ≡ true) → k < length items → s (literal_of p (get_or items k d).0) ≡ false →
    t (literal_of p (get_or items k d).0) ≡ true → (weight_by s p items +ℤ (get_or items k d).1) ≤ℤ weight_by t p items
weight-apart s t p [] k d weighted f lt lacks has = absurd (omega arith)
weight-apart s t p (i ∷ items) zero d weighted f lt lacks has =
    let b = weight-more s t p items weighted.1 f in
    rw (lacks, has) (omega (arith, ints, b))
weight-apart s t p (i ∷ items) (suc k) d weighted f lt lacks has =
    let a = less (s (literal_of p i.0)) (t (literal_of p i.0)) i.1 weighted.0 (f (literal_of p i.0)) in
    let b = weight-apart s t p items k d weighted.1 f (omega arith) lacks has in
    omega (arith, ints, a, b)

may-less : (x y : List (Option Bool)) → AreWithin x y → (l : Literal) → may_hold y l ≡ true → may_hold x l ≡ true
may-less x y within l e = cases (holds_in x (complement l)) refl
  where
    cases : (b : Bool) → b ≡ holds_in x (complement l) → may_hold x l ≡ true
    cases false q = ap not (sym q)
    cases true q = absurd (false≢true (sym (ap not (held-within x y (complement l) within (sym q))) ∙ e))

pub low-more : (p : Program) (x y : List (Option Bool)) (items : List (ℤ × ℤ)) → AreItems items → AreWithin x y → weight_by (holds_in x) p items ≤ℤ weight_by (holds_in y) p items
low-more p x y items weighted within = weight-more (holds_in x) (holds_in y) p items weighted (λ l. held-within x y l within)

pub high-less : (p : Program) (x y : List (Option Bool)) (items : List (ℤ × ℤ)) → AreItems items → AreWithin x y → weight_by (may_hold y) p items ≤ℤ weight_by (may_hold x) p items
high-less p x y items weighted within = weight-more (may_hold y) (may_hold x) p items weighted (may-less x y within)

-- ---- one value more
pub within-set : (y : List (Option Bool)) (v : ℕ) (b : Bool) → value_of y v ≡ None → AreWithin y (set y v (Some b))
within-set y v b none u c e = cases (eqb u v) refl
  where
    cases : (t : Bool) → t ≡ eqb u v → value_of (set y v (Some b)) u ≡ Some c
    cases true q = let same : value_of y v ≡ Some c = ap (value_of y) (sym (eqb-true u v (sym q))) ∙ e in absurd cc
    cases false q =
        let apart : u ≢ v = λ same. false≢true (q ∙ eq-eqb u v same) in
        get_or-set_other y v u (Some b) None apart ∙ e

pub within-then : (x y z : List (Option Bool)) → AreWithin x y → AreWithin y z → AreWithin x z
within-then x y z a b v t e = b v t (a v t e)

-- ---- a broken body is a conflict
unbroken : (p : Program) (k : Known) (x : List (Option Bool)) (b : Body) → Among (bodies_of p) b → has_conflict p k x ≡ false → is_broken p x b ≡ true → ⊥
unbroken p k x b among e h =
    let first = or_parts (list_any (λ m. list_all (holds_in x) m) k.nogoods || list_any (is_broken p x) (bodies_of p)) (reaches_bound p k.bound x) e in
    let none = or_parts (list_any (λ m. list_all (holds_in x) m) k.nogoods) (list_any (is_broken p x) (bodies_of p)) first.0 in
    false≢true (sym none.1 ∙ among (is_broken p x) h)

or-first : (a b : Bool) → a ≡ true → (a || b) ≡ true
or-first true b e = refl
or-first false b e = absurd (false≢true e)

or-second : (a b : Bool) → b ≡ true → (a || b) ≡ true
or-second true b e = refl
or-second false b e = e

-- A literal is forced where its complement, added to propagated values, would break the body, whatever else they have.
pub forced-by : (p : Program) (k : Known) (x : List (Option Bool)) (b : Body) (l : Literal) → Among (bodies_of p) b → 0 < l.var →
    l.var ≤ var_count p → ((z : List (Option Bool)) → AreWithin x z → holds_in z (complement l) ≡ true → is_broken p z b ≡ true) → Forced p k x l
forced-by p k x b l among i le breaks y propagated within = cases (value_of y l.var) refl
  where
    inside : l.var < length y
    inside = let s = propagated.size in omega arith

    cases : (o : Option Bool) → o ≡ value_of y l.var → holds_in y l ≡ true
    cases None q =
        let z : List (Option Bool) = set y l.var (Some (not l.truth)) in
        let here : holds_in z (complement l) ≡ true = held-value z (complement l) (get_or-set_same y l.var (Some (not l.truth)) None inside) in
        absurd (unbroken p k z b among (propagated.one_more l.var (not l.truth) i le (sym q)) (breaks z (within-then x y z within (within-set y l.var (not l.truth) (sym q))) here))
    cases (Some t) q = by-truth (beq t l.truth) refl
      where
        other : (a c : Bool) → beq a c ≡ false → beq a (not c) ≡ true
        other true true e = absurd (false≢true (sym e))
        other true false e = refl
        other false true e = refl
        other false false e = absurd (false≢true (sym e))

        by-truth : (s : Bool) → s ≡ beq t l.truth → holds_in y l ≡ true
        by-truth true s = ap (λ o. agrees o l) (sym q) ∙ sym s
        by-truth false s = absurd (unbroken p k y b among propagated.now (breaks y within (ap (λ o. agrees o (complement l)) (sym q) ∙ other t l.truth (sym s))))

-- ---- the four ways
pub reached : (c v w : ℤ) → int_le c v ≡ true → v ≤ℤ w → int_le c w ≡ true
reached c v w e h = grind (arith, ints)

pub missed : (c v w : ℤ) → int_lt v c ≡ true → w ≤ℤ v → int_lt w c ≡ true
missed c v w e h = grind (arith, ints)

-- The true literals reach the bound: the body is true.
pub reached-forces : (p : Program) (k : Known) (x : List (Option Bool)) (c : ℤ) (items : List (ℤ × ℤ)) → Among (bodies_of p) (body.AtLeast c items) →
    AreItems items → 0 < var_of_form p (body.AtLeast c items) → var_of_form p (body.AtLeast c items) ≤ var_count p →
    int_le c (weight_by (holds_in x) p items) ≡ true → Forced p k x (T (var_of_form p (body.AtLeast c items)))
reached-forces p k x c items among weighted i le e =
    let b : Body = body.AtLeast c items in
    forced-by p k x b (T (var_of_form p b)) among i le (λ z within false_body.
    or-second (holds_in z (T (var_of_form p b)) && int_lt (weight_by (may_hold z) p items) c) (holds_in z (F (var_of_form p b)) && int_le c (weight_by (holds_in z) p items))
    (and_from (holds_in z (F (var_of_form p b))) (int_le c (weight_by (holds_in z) p items)) false_body
    (reached c (weight_by (holds_in x) p items) (weight_by (holds_in z) p items) e (low-more p x z items weighted within))))

-- The literals that aren't false don't reach the bound: the body is false.
pub missed-forces : (p : Program) (k : Known) (x : List (Option Bool)) (c : ℤ) (items : List (ℤ × ℤ)) → Among (bodies_of p) (body.AtLeast c items) →
    AreItems items → 0 < var_of_form p (body.AtLeast c items) → var_of_form p (body.AtLeast c items) ≤ var_count p →
    int_lt (weight_by (may_hold x) p items) c ≡ true → Forced p k x (F (var_of_form p (body.AtLeast c items)))
missed-forces p k x c items among weighted i le e =
    let b : Body = body.AtLeast c items in
    forced-by p k x b (F (var_of_form p b)) among i le (λ z within true_body.
    or-first (holds_in z (T (var_of_form p b)) && int_lt (weight_by (may_hold z) p items) c) (holds_in z (F (var_of_form p b)) && int_le c (weight_by (holds_in z) p items))
    (and_from (holds_in z (T (var_of_form p b))) (int_lt (weight_by (may_hold z) p items) c) true_body
    (missed c (weight_by (may_hold x) p items) (weight_by (may_hold z) p items) e (high-less p x z items weighted within))))

lighter : (c v w u : ℤ) → (v +ℤ w) ≤ℤ u → u <ℤ (c +ℤ w) → int_lt v c ≡ true
lighter c v w u e h = grind (arith, ints)

heavier : (c v w u : ℤ) → (v +ℤ w) ≤ℤ u → c ≤ℤ (v +ℤ w) → int_le c u ≡ true
heavier c v w u e h = grind (arith, ints)

-- The body is true, and without this literal it isn't reached: the literal holds.
pub needed-forces : (p : Program) (k : Known) (x : List (Option Bool)) (c : ℤ) (items : List (ℤ × ℤ)) (j : ℕ) (d : ℤ × ℤ) →
    Among (bodies_of p) (body.AtLeast c items) → AreItems items → j < length items → 0 < (literal_of p (get_or items j d).0).var →
    (literal_of p (get_or items j d).0).var ≤ var_count p →
    holds_in x (T (var_of_form p (body.AtLeast c items))) ≡ true → may_hold x (literal_of p (get_or items j d).0) ≡ true →
    weight_by (may_hold x) p items <ℤ (c +ℤ (get_or items j d).1) → Forced p k x (literal_of p (get_or items j d).0)
needed-forces p k x c items j d among weighted lt i le true_body may short =
    let b : Body = body.AtLeast c items in
    let l = literal_of p (get_or items j d).0 in
    forced-by p k x b l among i le (λ z within fails.
    or-first (holds_in z (T (var_of_form p b)) && int_lt (weight_by (may_hold z) p items) c) (holds_in z (F (var_of_form p b)) && int_le c (weight_by (holds_in z) p items))
    (and_from (holds_in z (T (var_of_form p b))) (int_lt (weight_by (may_hold z) p items) c) (held-within x z (T (var_of_form p b)) within true_body)
    (lighter c (weight_by (may_hold z) p items) (get_or items j d).1 (weight_by (may_hold x) p items)
    (weight-apart (may_hold z) (may_hold x) p items j d weighted (may-less x z within) lt (ap not fails) may) short)))

twice : (b : Bool) → not (not b) ≡ b
twice true = refl
twice false = refl

held-twice : (z : List (Option Bool)) (l : Literal) → holds_in z (complement (complement l)) ≡ true → holds_in z l ≡ true
held-twice z l e = held-value z l (value-held z (complement (complement l)) e ∙ ap (λ t. let o : Option Bool = Some t in o) (twice l.truth))

-- The body is false, and with this literal it is reached: the literal is false.
pub barred-forces : (p : Program) (k : Known) (x : List (Option Bool)) (c : ℤ) (items : List (ℤ × ℤ)) (j : ℕ) (d : ℤ × ℤ) →
    Among (bodies_of p) (body.AtLeast c items) → AreItems items → j < length items → 0 < (literal_of p (get_or items j d).0).var →
    (literal_of p (get_or items j d).0).var ≤ var_count p →
    holds_in x (F (var_of_form p (body.AtLeast c items))) ≡ true → holds_in x (literal_of p (get_or items j d).0) ≡ false →
    c ≤ℤ (weight_by (holds_in x) p items +ℤ (get_or items j d).1) → Forced p k x (complement (literal_of p (get_or items j d).0))
barred-forces p k x c items j d among weighted lt i le false_body lacks long =
    let b : Body = body.AtLeast c items in
    let l = literal_of p (get_or items j d).0 in
    forced-by p k x b (complement l) among i le (λ z within holds_l.
    or-second (holds_in z (T (var_of_form p b)) && int_lt (weight_by (may_hold z) p items) c) (holds_in z (F (var_of_form p b)) && int_le c (weight_by (holds_in z) p items))
    (and_from (holds_in z (F (var_of_form p b))) (int_le c (weight_by (holds_in z) p items)) (held-within x z (F (var_of_form p b)) within false_body)
    (heavier c (weight_by (holds_in x) p items) (get_or items j d).1 (weight_by (holds_in z) p items)
    (weight-apart (holds_in x) (holds_in z) p items j d weighted (λ m. held-within x z m within) lt lacks (held-twice z l holds_l)) long)))
