-- Sums over rows: by two tests, and where one more variable has a value.
use Rattle.std.proofs.Common.{◌≡◌, ◌≢◌, ℕ, suc, zero, ◌+◌, ◌-◌, ◌<◌, ◌≤◌, Bool, true, false, not, cond, ◌&&◌, ◌||◌, eqb, ltb, List, [], ◌∷◌, length, set, get_or, sum_by, Option, Some, None, refl, sym, ap, ◌∙◌, arith, get_or-set_other, get_or-set_same}
use Rattle.std.specs.List.{All, list_all}
use Rattle.std.specs.Bool.{beq}
use Rattle.std.specs.Option.{is_none}
use Rattle.std.proofs.lemmas.Bool.{eq-eqb, eqb-true, false≢true}
use Rattle.std.proofs.lemmas.Bool.Decides.{nat_tests}
use Rattle.std.proofs.lemmas.List.Elements.{All-head, All-tail}
use Rattle.std.proofs.lemmas.List.Sums.{sum_by-cons, get_or-le-sum_by}
use Rattle.asp_vars.specs.Literals.{Literal, complement, value_of, holds_in, agrees}
use Rattle.asp_trail.specs.Fixpoint.{is_open}
use Rattle.asp_weight.specs.declared.item.Item.{Item}
use Rattle.asp_weight.specs.declared.item.Shape.{Shape}
use Rattle.asp_weight.specs.declared.item.Place.{Place}
use Rattle.asp_weight.specs.Rows.{on, weight_if, sum_where, total_of, need_of, is_under, is_short, is_silent_row_as, is_silent_row}
use Rattle.asp_weight.specs.Tallied.{weight_in, sum_in}
use Rattle.asp_weight.specs.Placed.{weight_at, sum_at, touches}

-- ---- lists
pub list_all_same : {X : Type 0} → (p q : X → Bool) (xs : List X) → All (λ x. p x ≡ q x) xs → list_all p xs ≡ list_all q xs
list_all_same p q [] a = refl
list_all_same p q (x ∷ xs) a =
    ap (λ b. b && list_all p xs) (All-head (λ y. p y ≡ q y) x xs a) ∙ ap (λ b. q x && b) (list_all_same p q xs (All-tail (λ y. p y ≡ q y) x xs a))

pub sum_same : {X : Type 0} → (f g h : X → ℕ) (xs : List X) → ((x : X) → f x ≡ g x + h x) → sum_by f xs ≡ sum_by g xs + sum_by h xs
sum_same f g h [] e = refl
sum_same f g h (x ∷ xs) e = omega (arith, sum_by-cons f x xs, sum_by-cons g x xs, sum_by-cons h x xs, sum_same f g h xs e, e x)

pub sum_le : {X : Type 0} → (f g : X → ℕ) (xs : List X) → ((x : X) → f x ≤ g x) → sum_by f xs ≤ sum_by g xs
sum_le f g [] e = omega arith
sum_le f g (x ∷ xs) e = omega (arith, sum_by-cons f x xs, sum_by-cons g x xs, sum_le f g xs e, e x)

-- an item that the smaller sum leaves out
pub sum_le_but : {X : Type 0} → (f g : X → ℕ) (xs : List X) (j : ℕ) (d : X) → ((x : X) → f x ≤ g x) → j < length xs → f (get_or xs j d) ≡ 0 → g (get_or xs j d) + sum_by f xs ≤ sum_by g xs
sum_le_but f g [] j d e h z = absurd (omega (arith, h))
sum_le_but f g (x ∷ xs) zero d e h z = omega (arith, sum_by-cons f x xs, sum_by-cons g x xs, sum_le f g xs e, z)
sum_le_but f g (x ∷ xs) (suc j) d e h z = omega (arith, sum_by-cons f x xs, sum_by-cons g x xs, sum_le_but f g xs j d e (omega (arith, h)) z, e x)

-- ---- both sides
split_item : (b : Bool) (w : ℕ) → w ≡ cond (not b) w 0 + cond b w 0
split_item true w = omega arith
split_item false w = omega arith

pub total_split : (t : Literal → Bool) (row : List Item) → total_of row ≡ sum_where (λ l. not (t (complement l))) true row + sum_where t false row
total_split t row = sum_same (λ (i : Item). i.weight) (weight_if (λ l. not (t (complement l))) true) (weight_if t false) row (λ i. split_item (t (complement i.lit)) i.weight)

pub sum_where-le-total : (t : Literal → Bool) (side : Bool) (row : List Item) → sum_where t side row ≤ total_of row
sum_where-le-total t side row = sum_le (weight_if t side) (λ (i : Item). i.weight) row (λ i. below (t (on side i.lit)) i.weight)
  where
    below : (b : Bool) (w : ℕ) → cond b w 0 ≤ w
    below true w = omega arith
    below false w = omega arith

-- ---- one more variable
-- the literal that starts to speak for a side
abbrev pub turned : Bool → Bool → Bool
turned true t = t
turned false t = not t

same_sides : (b t : Bool) → beq t b ≡ beq b t
same_sides true true = refl
same_sides true false = refl
same_sides false true = refl
same_sides false false = refl

other_sides : (b t : Bool) → beq t (not b) ≡ beq b (not t)
other_sides true true = refl
other_sides true false = refl
other_sides false true = refl
other_sides false false = refl

speaks_now : (side : Bool) (l : Literal) (t : Bool) → agrees (Some t) (on side l) ≡ beq l.truth (turned side t)
speaks_now true l t = same_sides l.truth t
speaks_now false l t = other_sides l.truth t

on-var : (side : Bool) (l : Literal) → (on side l).var ≡ l.var
on-var true l = refl
on-var false l = refl

pub value_there : (a : List (Option Bool)) (v : ℕ) (t : Bool) → v < length a → value_of (set a v (Some t)) v ≡ Some t
value_there a v t h = get_or-set_same a v (Some t) None h

pub value_elsewhere : (a : List (Option Bool)) (v u : ℕ) (o : Option Bool) → u ≢ v → value_of (set a v o) u ≡ value_of a u
value_elsewhere a v u o ne = get_or-set_other a v u o None ne

weight_more : (a : List (Option Bool)) (v : ℕ) (t side : Bool) → v < length a → value_of a v ≡ None → (i : Item) →
    weight_if (holds_in (set a v (Some t))) side i ≡ weight_if (holds_in a) side i + weight_at (record { var = v; truth = turned side t }) i
weight_more a v t side h n i = cases (eqb i.lit.var v) refl
  where
    here : (b c : Bool) (w : ℕ) → b ≡ false → cond c w 0 ≡ cond b w 0 + cond (true && c) w 0
    here true c w e = absurd (false≢true (sym e))
    here false c w e = omega arith

    cases : (b : Bool) → b ≡ eqb i.lit.var v →
        cond (holds_in (set a v (Some t)) (on side i.lit)) i.weight 0 ≡ cond (holds_in a (on side i.lit)) i.weight 0 + cond (b && beq i.lit.truth (turned side t)) i.weight 0
    cases true q =
        let s : (on side i.lit).var ≡ v = on-var side i.lit ∙ eqb-true i.lit.var v (sym q) in
        ap (λ b. cond b i.weight 0) (ap (λ o. agrees o (on side i.lit)) (ap (value_of (set a v (Some t))) s ∙ value_there a v t h) ∙ speaks_now side i.lit t)
        ∙ here (holds_in a (on side i.lit)) (beq i.lit.truth (turned side t)) i.weight (ap (λ o. agrees o (on side i.lit)) (ap (value_of a) s ∙ n))
    cases false q =
        let ne : i.lit.var ≢ v = grind (arith, nat_tests) in
        ap (λ b. cond b i.weight 0) (ap (λ o. agrees o (on side i.lit)) (value_elsewhere a v (on side i.lit).var (Some t) (λ e. ne (sym (on-var side i.lit) ∙ e))))
        ∙ omega arith

pub sum_more : (a : List (Option Bool)) (v : ℕ) (t side : Bool) (row : List Item) → v < length a → value_of a v ≡ None →
    sum_where (holds_in (set a v (Some t))) side row ≡ sum_where (holds_in a) side row + sum_at (record { var = v; truth = turned side t }) row
sum_more a v t side row h n =
    sum_same (weight_if (holds_in (set a v (Some t))) side) (weight_if (holds_in a) side) (weight_at (record { var = v; truth = turned side t })) row (weight_more a v t side h n)

-- ---- a body that isn't touched
pub sum_in-untouched : (w : ℕ) (truth : Bool) (places : List Place) → touches w places ≡ false → sum_in w truth places ≡ 0
sum_in-untouched w truth [] e = refl
sum_in-untouched w truth (o ∷ places) e =
    sum_by-cons (weight_in w truth) o places ∙ cases (eqb o.body w) (sum_in-untouched w truth places) e
  where
    cases : (b : Bool) → (touches w places ≡ false → sum_in w truth places ≡ 0) → (b || touches w places) ≡ false → cond b (cond (beq o.truth truth) o.weight 0) 0 + sum_in w truth places ≡ 0
    cases true f q = absurd (false≢true (sym q))
    cases false f q = omega (arith, f q)

-- a row in which the variable weighs nothing hasn't it
pub sum_at-absent : (v : ℕ) (row : List Item) → All (λ i. 0 < i.weight) row → sum_at (record { var = v; truth = true }) row ≡ 0 → sum_at (record { var = v; truth = false }) row ≡ 0 →
    All (λ i. i.lit.var ≢ v) row
sum_at-absent v row a t f k d h e = both (get_or row k d).lit.truth (get_or row k d).lit.truth refl
  where
    i : Item
    i = get_or row k d

    weighs : (b : Bool) → b ≡ i.lit.truth → weight_at (record { var = v; truth = b }) i ≡ i.weight
    weighs b q = ap (λ c. cond (c && beq i.lit.truth b) i.weight 0) (eq-eqb i.lit.var v e) ∙ ap (λ c. cond (beq i.lit.truth c) i.weight 0) q ∙ ap (λ c. cond c i.weight 0) (itself i.lit.truth)
      where
        itself : (c : Bool) → beq c c ≡ true
        itself true = refl
        itself false = refl

    both : (b c : Bool) → b ≡ i.lit.truth → ⊥
    both true c q = omega (arith, a k d h, t, weighs true q, get_or-le-sum_by (weight_at (record { var = v; truth = true })) row k d h)
    both false c q = omega (arith, a k d h, f, weighs false q, get_or-le-sum_by (weight_at (record { var = v; truth = false })) row k d h)

-- where the values agree on the body's variables it is as silent
pub silence_alike : (a b : List (Option Bool)) (s : Shape) (row : List Item) → value_of a s.var ≡ value_of b s.var →
    All (λ i. value_of a i.lit.var ≡ value_of b i.lit.var) row → is_silent_row a s row ≡ is_silent_row b s row
silence_alike a b s row e r = ap (λ o. is_silent_row_as o a s row) e ∙ cases (value_of b s.var)
  where
    sums : (side : Bool) (xs : List Item) → All (λ i. value_of a i.lit.var ≡ value_of b i.lit.var) xs → sum_where (holds_in a) side xs ≡ sum_where (holds_in b) side xs
    sums side [] q = refl
    sums side (i ∷ xs) q =
        sum_by-cons (weight_if (holds_in a) side) i xs
        ∙ (ap (λ n. n + sum_where (holds_in a) side xs)
        (ap (λ c. cond c i.weight 0) (ap (λ o. agrees o (on side i.lit))
        (same side i (All-head (λ (x : Item). value_of a x.lit.var ≡ value_of b x.lit.var) i xs q))))
        ∙ (ap (λ n. weight_if (holds_in b) side i + n) (sums side xs (All-tail (λ (x : Item). value_of a x.lit.var ≡ value_of b x.lit.var) i xs q))
        ∙ sym (sum_by-cons (weight_if (holds_in b) side) i xs)))
      where
        same : (side : Bool) (i : Item) → value_of a i.lit.var ≡ value_of b i.lit.var → value_of a (on side i.lit).var ≡ value_of b (on side i.lit).var
        same true i q = q
        same false i q = q

    under : (side : Bool) → is_under side a s row ≡ is_under side b s row
    under side = ap (λ n. ltb n (need_of side s)) (sums side row r)

    short : (side : Bool) → is_short side a s row ≡ is_short side b s row
    short side =
        ap (λ c. c && list_all (λ (i : Item). not (is_open a i.lit) || ltb i.weight (need_of side s - sum_where (holds_in a) side row)) row) (under side)
        ∙ ap (λ c. is_under side b s row && c)
        (ap (λ n. list_all (λ (i : Item). not (is_open a i.lit) || ltb i.weight (need_of side s - n)) row) (sums side row r)
        ∙ list_all_same (λ (i : Item). not (is_open a i.lit) || ltb i.weight (need_of side s - sum_where (holds_in b) side row))
        (λ (i : Item). not (is_open b i.lit) || ltb i.weight (need_of side s - sum_where (holds_in b) side row)) row
        (λ k d h. ap (λ o. not (is_none o) || ltb (get_or row k d).weight (need_of side s - sum_where (holds_in b) side row)) (r k d h)))

    cases : (o : Option Bool) → is_silent_row_as o a s row ≡ is_silent_row_as o b s row
    cases None = ap (λ c. c && is_under false a s row) (under true) ∙ ap (λ c. is_under true b s row && c) (under false)
    cases (Some true) = short false
    cases (Some false) = short true
