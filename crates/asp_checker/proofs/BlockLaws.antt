-- What weight bodies and a bound say with more values.
use Rattle.std.proofs.Common.{◌≡◌, ◌≢◌, ℕ, zero, suc, ◌+◌, ◌<◌, ◌≤◌, Bool, true, false, not, cond, ◌&&◌, ◌||◌, eqb, List, [], ◌∷◌, map, length, refl, sym, ap, ◌∙◌, subst, arith, Option, Some, None, get_or, set, inl, inr, get_or-set_same, get_or-set_other}
use Rattle.std.specs.Prelude.{ℤ, pos, ◌≤ℤ◌, int_lt, int_le}
use Rattle.std.specs.Option.{is_none}
use Rattle.std.specs.List.{list_all, list_any, AllByRecursion}
use Rattle.std.specs.Bool.{beq}
use Rattle.std.proofs.lemmas.Bool.{false≢true, and_parts, and_from, or_cases, or_parts, or_left, or_right, eqb-true, eq-eqb, cases_lt}
use Rattle.std.proofs.lemmas.Int.{ints}
use Rattle.std.proofs.lemmas.List.{length-map, set-set, set-get_or}
use Rattle.std.proofs.lemmas.List.Sums.{sum_by-set}
use Rattle.asp_model.specs.declared.program.Body.{Body}
use Rattle.asp_model.specs.declared.program.Body.TheVariants as body
use Rattle.asp_model.specs.declared.program.Program.{Program}
use Rattle.asp_model.specs.Sound.{IsSound}
use Rattle.asp_model.specs.Costs.{priorities, betters}
use Rattle.asp_model.proofs.MemberLaws.{list_any-weaker}
use Rattle.asp_vars.specs.Literals.{Literal, T, F, value_of, agrees, holds_in}
use Rattle.asp_vars.specs.Numbering.{bodies_of, var_count, var_of_form}
use Rattle.asp_bound.specs.Optimism.{weight_at, least, least_at, optimistic_at, optimistic}
use Rattle.asp_bound.specs.Reach.{reach}
use Rattle.asp_bound.proofs.SumLaws.{sum_to-le}
use Rattle.asp_bound.proofs.CostLaws.{least-rise}
use Rattle.asp_bound.proofs.ReachLaws.{betters-reach, reach-above}
use Rattle.asp_loop.proofs.WeightedLaws.{AreItems, form_items, nth_weighted}
use Rattle.asp_checker.specs.Propagation.{Known, may_hold, weight_by, is_broken, reaches_bound, has_conflict, IsPropagated, LeadsToConflict}
use Rattle.asp_checker.specs.Steps.{AreWithin, Follow, Forced}
use Rattle.asp_checker.specs.Blocks.{is_blocked, IsImplied, AreFree}
use Rattle.asp_checker.specs.Sweeps.{open_count}
use Rattle.asp_checker.proofs.StepLaws.{held-within}
use Rattle.asp_checker.proofs.WeightLaws.{low-more, high-less, reached, missed}

-- ---- more values
broken-more : (p : Program) (x y : List (Option Bool)) (b : Body) → AreItems (form_items b) → AreWithin x y → is_broken p x b ≡ true → is_broken p y b ≡ true
broken-more p x y (body.All literals) weighted within e = e
broken-more p x y (body.AtLeast c items) weighted within e =
    let v : ℕ = var_of_form p (body.AtLeast c items) in
    let up : Bool = holds_in y (T v) && int_lt (weight_by (may_hold y) p items) c in
    let down : Bool = holds_in y (F v) && int_le c (weight_by (holds_in y) p items) in
    elim (or_cases (holds_in x (T v) && int_lt (weight_by (may_hold x) p items) c) (holds_in x (F v) && int_le c (weight_by (holds_in x) p items)) e) [
      | inl h ↦ (
          let parts = and_parts (holds_in x (T v)) (int_lt (weight_by (may_hold x) p items) c) h in
          or_left up down (and_from (holds_in y (T v)) (int_lt (weight_by (may_hold y) p items) c) (held-within x y (T v) within parts.0)
          (missed c (weight_by (may_hold x) p items) (weight_by (may_hold y) p items) parts.1 (high-less p x y items weighted within))))
      | inr h ↦ (
          let parts = and_parts (holds_in x (F v)) (int_le c (weight_by (holds_in x) p items)) h in
          or_right up down (and_from (holds_in y (F v)) (int_le c (weight_by (holds_in y) p items)) (held-within x y (F v) within parts.0)
          (reached c (weight_by (holds_in x) p items) (weight_by (holds_in y) p items) parts.1 (low-more p x y items weighted within))))
    ]

each_at : {X : Type 0} (P : X → Type 0) (xs : List X) (d : X) → ((j : ℕ) → j < length xs → P (get_or xs j d)) → AllByRecursion P xs
each_at P [] d h = tt
each_at P (x ∷ xs) d h = (h 0 (omega arith), each_at P xs d (λ j lt. h (suc j) (omega arith)))

bodies-weighted : (p : Program) → IsSound p → AllByRecursion (λ b. AreItems (form_items b)) (bodies_of p)
bodies-weighted p sound = each_at (λ b. AreItems (form_items b)) (bodies_of p) (body.All []) (λ j lt. nth_weighted p j sound lt)

each_broken : (p : Program) (x y : List (Option Bool)) (bs : List Body) → AllByRecursion (λ b. AreItems (form_items b)) bs → AreWithin x y →
    AllByRecursion (λ b. is_broken p x b ≡ true → is_broken p y b ≡ true) bs
each_broken p x y [] h within = tt
each_broken p x y (b ∷ bs) h within = (broken-more p x y b h.0 within, each_broken p x y bs h.1 within)

least-more : (o r : Option Bool) (t f : ℤ) → ((b : Bool) → o ≡ Some b → r ≡ Some b) → least o t f ≤ℤ least r t f
least-more None None t f h = omega (arith, ints)
least-more None (Some b) t f h = let up = least-rise b t f in omega (arith, ints, up)
least-more (Some b) r t f h = let same = ap (λ s. least s t f) (h b refl) in omega (arith, ints, same)

optimistic_at-more : (p : Program) (x y : List (Option Bool)) (q : ℤ) → AreWithin x y → optimistic_at p x q ≤ℤ optimistic_at p y q
optimistic_at-more p x y q within = sum_to-le (least_at p x q) (least_at p y q) (var_count p) (λ v i k. least-more (value_of x v) (value_of y v) (weight_at p q (T v)) (weight_at p q (F v)) (within v))

map-le : (f g : ℤ → ℤ) → ((q : ℤ) → f q ≤ℤ g q) → (qs : List ℤ) (j : ℕ) → get_or (map f qs) j (pos 0) ≤ℤ get_or (map g qs) j (pos 0)
map-le f g h [] j = omega (arith, ints)
map-le f g h (q ∷ qs) zero = h q
map-le f g h (q ∷ qs) (suc j) = map-le f g h qs j

undone : (b : Bool) → not b ≡ true → b ≡ false
undone true e = absurd (false≢true e)
undone false e = refl

some_of : (r : Option ℕ) → is_none r ≡ false → (d : ℕ) × (r ≡ Some d)
some_of None e = absurd (false≢true (sym e))
some_of (Some d) e = (d, refl)

reaches-more : (p : Program) (bound : Option (List ℤ)) (x y : List (Option Bool)) → AreWithin x y → reaches_bound p bound x ≡ true → reaches_bound p bound y ≡ true
reaches-more p None x y within e = e
reaches-more p (Some c) x y within e =
    let qs : List ℤ = priorities p.minimize in
    let met = some_of (reach (optimistic p x) c) (sym (betters-reach (optimistic p x) c) ∙ undone (betters (optimistic p x) c) e) in
    ap not (reach-above (optimistic p x) (optimistic p y) c met.0 met.1 (length-map qs (optimistic_at p x) ∙ sym (length-map qs (optimistic_at p y)))
    (λ j lt. map-le (optimistic_at p x) (optimistic_at p y) (λ q. optimistic_at-more p x y q within) qs j))

pub blocked-more : (p : Program) (bound : Option (List ℤ)) (x y : List (Option Bool)) → IsSound p → AreWithin x y → is_blocked p bound x ≡ true → is_blocked p bound y ≡ true
blocked-more p bound x y sound within e = elim (or_cases (list_any (is_broken p x) (bodies_of p)) (reaches_bound p bound x) e) [
  | inl h ↦ or_left (list_any (is_broken p y) (bodies_of p)) (reaches_bound p bound y)
      (list_any-weaker (is_broken p x) (is_broken p y) (bodies_of p) (each_broken p x y (bodies_of p) (bodies-weighted p sound) within) h)
  | inr h ↦ or_right (list_any (is_broken p y) (bodies_of p)) (reaches_bound p bound y) (reaches-more p bound x y within h)
]

-- ---- what blocks is a conflict
pub free-of : (p : Program) (k : Known) (x : List (Option Bool)) → has_conflict p k x ≡ false → is_blocked p k.bound x ≡ false
free-of p k x e =
    let first = or_parts (list_any (λ n. list_all (holds_in x) n) k.nogoods || list_any (is_broken p x) (bodies_of p)) (reaches_bound p k.bound x) e in
    let none = or_parts (list_any (λ n. list_all (holds_in x) n) k.nogoods) (list_any (is_broken p x) (bodies_of p)) first.0 in
    both (list_any (is_broken p x) (bodies_of p)) (reaches_bound p k.bound x) none.1 first.1
  where
    both : (a b : Bool) → a ≡ false → b ≡ false → (a || b) ≡ false
    both false b h i = i
    both true b h i = absurd (false≢true (sym h))

pub blocked-conflicts : (p : Program) (k : Known) (x : List (Option Bool)) (n : List Literal) → IsSound p → is_blocked p k.bound x ≡ true → Follow p k n x → LeadsToConflict p k n
blocked-conflicts p k x n sound blocked follow = record { none = λ y propagated. cases y propagated (list_all (holds_in y) n) refl }
  where
    cases : (y : List (Option Bool)) → IsPropagated p k y → (b : Bool) → b ≡ list_all (holds_in y) n → list_all (holds_in y) n ≡ false
    cases y propagated false q = sym q
    cases y propagated true q = absurd (false≢true (sym (free-of p k y propagated.now) ∙ blocked-more p k.bound x y sound (follow y propagated (sym q)) blocked))

-- both with one value more
within-both : (x y : List (Option Bool)) (v : ℕ) (b : Bool) → v < length x → v < length y → AreWithin x y → AreWithin (set x v (Some b)) (set y v (Some b))
within-both x y v b i j within u c e = cases (eqb u v) refl
  where
    cases : (t : Bool) → t ≡ eqb u v → value_of (set y v (Some b)) u ≡ Some c
    cases true q =
        let same : u ≡ v = eqb-true u v (sym q) in
        let here : value_of (set x v (Some b)) v ≡ Some b = get_or-set_same x v (Some b) None i in
        let there : value_of (set y v (Some b)) v ≡ Some b = get_or-set_same y v (Some b) None j in
        ap (value_of (set y v (Some b))) same ∙ there ∙ sym here ∙ ap (value_of (set x v (Some b))) (sym same) ∙ e
    cases false q =
        let apart : u ≢ v = λ same. false≢true (q ∙ eq-eqb u v same) in
        get_or-set_other y v u (Some b) None apart ∙ within u c (sym (get_or-set_other x v u (Some b) None apart) ∙ e)

pub within-value : (x y : List (Option Bool)) (v : ℕ) (b : Bool) → v < length x → AreWithin x y → value_of y v ≡ Some b → AreWithin (set x v (Some b)) y
within-value x y v b i within is u c e = cases (eqb u v) refl
  where
    cases : (t : Bool) → t ≡ eqb u v → value_of y u ≡ Some c
    cases true q =
        let same : u ≡ v = eqb-true u v (sym q) in
        let here : value_of (set x v (Some b)) v ≡ Some b = get_or-set_same x v (Some b) None i in
        ap (value_of y) same ∙ is ∙ sym here ∙ ap (value_of (set x v (Some b))) (sym same) ∙ e
    cases false q =
        let apart : u ≢ v = λ same. false≢true (q ∙ eq-eqb u v same) in
        within u c (sym (get_or-set_other x v u (Some b) None apart) ∙ e)

-- A value with which the values would be blocked is none of propagated values.
pub blocked-forces : (p : Program) (k : Known) (x : List (Option Bool)) (l : Literal) → IsSound p → 0 < l.var → l.var ≤ var_count p → length x ≡ var_count p + 1 →
    is_blocked p k.bound (set x l.var (Some (not l.truth))) ≡ true → Forced p k x l
blocked-forces p k x l sound i le size blocked y propagated within = cases (value_of y l.var) refl
  where
    inside : l.var < length x
    inside = omega arith

    inside_y : l.var < length y
    inside_y = let s = propagated.size in omega arith

    cases : (o : Option Bool) → o ≡ value_of y l.var → holds_in y l ≡ true
    cases None q =
        let z : List (Option Bool) = set y l.var (Some (not l.truth)) in
        let hit : is_blocked p k.bound z ≡ true = blocked-more p k.bound (set x l.var (Some (not l.truth))) z sound (within-both x y l.var (not l.truth) inside inside_y within) blocked in
        absurd (false≢true (sym (free-of p k z (propagated.one_more l.var (not l.truth) i le (sym q))) ∙ hit))
    cases (Some t) q = by-truth (beq t l.truth) refl
      where
        other : (a c : Bool) → beq a c ≡ false → a ≡ not c
        other true true e = absurd (false≢true (sym e))
        other true false e = refl
        other false true e = refl
        other false false e = absurd (false≢true (sym e))

        by-truth : (s : Bool) → s ≡ beq t l.truth → holds_in y l ≡ true
        by-truth true s = ap (λ o. agrees o l) (sym q) ∙ sym s
        by-truth false s =
            let is : value_of y l.var ≡ Some (not l.truth) = sym q ∙ ap (λ a. let o : Option Bool = Some a in o) (other t l.truth (sym s)) in
            absurd (false≢true (sym (free-of p k y propagated.now) ∙ blocked-more p k.bound (set x l.var (Some (not l.truth))) y sound (within-value x y l.var (not l.truth) inside within is) blocked))

-- ---- counting
pub open_count-set : (x : List (Option Bool)) (v : ℕ) (b : Bool) → v < length x → value_of x v ≡ None → open_count (set x v (Some b)) + 1 ≡ open_count x
open_count-set x v b lt none =
    let f : Option Bool → ℕ = λ o. cond (is_none o) 1 0 in
    let moved = sum_by-set f x v (Some b) None lt in
    let was : f (get_or x v None) ≡ 1 = ap f none in
    omega (arith, moved, was)

pub set_back : (x : List (Option Bool)) (v : ℕ) (b : Bool) → value_of x v ≡ None → set (set x v (Some b)) v None ≡ x
set_back x v b none = set-set x v (Some b) None ∙ ap (set x v) (sym none) ∙ set-get_or x v None

-- ---- what is implied, variable by variable
abbrev lit : ℕ → Bool → Literal
lit v t = record { var = v; truth = t }

implied_lit : (p : Program) (bound : Option (List ℤ)) (x : List (Option Bool)) (v : ℕ) (t : Bool) → 0 < v → v ≤ var_count p → value_of x v ≡ None →
    is_blocked p bound (set x v (Some t)) ≡ true → IsImplied p bound x (lit v (not t))
implied_lit p bound x v true i le none e = record { var = i; of = le; no_value = none; blocked = e }
implied_lit p bound x v false i le none e = record { var = i; of = le; no_value = none; blocked = e }

-- the literal h would block, so l is implied
pub implied_other : (p : Program) (bound : Option (List ℤ)) (x : List (Option Bool)) (v : ℕ) (t : Bool) (h l : Literal) → 0 < v → v ≤ var_count p →
    value_of x v ≡ None → h ≡ lit v t → l ≡ lit v (not t) → is_blocked p bound (set x h.var (Some h.truth)) ≡ true → IsImplied p bound x l
implied_other p bound x v t h l i le none eh el e =
    subst (IsImplied p bound x) (sym el) (implied_lit p bound x v t i le none (sym (ap (λ (m : Literal). is_blocked p bound (set x m.var (Some m.truth))) eh) ∙ e))

pub neither_blocks : (p : Program) (bound : Option (List ℤ)) (x : List (Option Bool)) (v : ℕ) (h l : Literal) → h ≡ lit v true → l ≡ lit v false →
    is_blocked p bound (set x h.var (Some h.truth)) ≡ false → is_blocked p bound (set x l.var (Some l.truth)) ≡ false → (b : Bool) →
    is_blocked p bound (set x v (Some b)) ≡ false
neither_blocks p bound x v h l eh el e f true = sym (ap (λ (m : Literal). is_blocked p bound (set x m.var (Some m.truth))) eh) ∙ e
neither_blocks p bound x v h l eh el e f false = sym (ap (λ (m : Literal). is_blocked p bound (set x m.var (Some m.truth))) el) ∙ f

pub free_first : (p : Program) (bound : Option (List ℤ)) (x : List (Option Bool)) → AreFree p bound x 0
free_first p bound x = record { free = λ v b i le none. absurd (omega arith) }

pub free_next : (p : Program) (bound : Option (List ℤ)) (z y : List (Option Bool)) (n : ℕ) → y ≡ z → AreFree p bound z n →
    (value_of z (n + 1) ≡ None → (b : Bool) → is_blocked p bound (set z (n + 1) (Some b)) ≡ false) → AreFree p bound y (n + 1)
free_next p bound z y n e h now = subst (λ w. AreFree p bound w (n + 1)) (sym e) (record {
  free = λ v b i le none. elim (cases_lt v (n + 1)) [
    | inl lt ↦ h.free v b i (omega arith) none
    | inr past ↦ (
        let same : v ≡ n + 1 = omega arith in
        ap (λ u. is_blocked p bound (set z u (Some b))) same ∙ now (ap (value_of z) (sym same) ∙ none) b)
  ];
})

pub free_whole : (p : Program) (bound : Option (List ℤ)) (z x : List (Option Bool)) (n : ℕ) → var_count p ≤ n → z ≡ x → AreFree p bound z n → AreFree p bound x (var_count p)
free_whole p bound z x n le e h = subst (λ w. AreFree p bound w (var_count p)) e (record { free = λ v b i k none. h.free v b i (omega arith) none })
