-- What a list of places does to the counters.
use Rattle.std.proofs.Common.{◌≡◌, ◌≢◌, ℕ, ◌+◌, ◌-◌, ◌<◌, ◌≤◌, ◌^◌, Bool, true, false, not, cond, eqb, ◌||◌, List, [], ◌∷◌, length, take, set, get_or, refl, sym, ap, ◌∙◌, subst, arith, get_or-set_other, get_or-set_same}
use Rattle.std.specs.List.{All}
use Rattle.std.specs.Bool.{beq}
use Rattle.std.proofs.lemmas.Bool.{eq-eqb, eqb-true}
use Rattle.std.proofs.lemmas.Bool.Decides.{nat_tests}
use Rattle.std.proofs.lemmas.List.{length-set}
use Rattle.std.proofs.lemmas.List.Elements.{All-head, All-tail, All-take}
use Rattle.std.proofs.lemmas.List.Sums.{sum_by-cons, sum_by_more_le}
use Rattle.asp_weight.specs.declared.tally.Tally.{Tally}
use Rattle.asp_weight.specs.declared.item.Place.{Place}
use Rattle.asp_weight.specs.Tallied.{tally_at, raised, lowered, raise, lower, raise_all, lower_all, weight_in, sum_in, sum_for, CanRaise, CanLower}
use Rattle.asp_weight.specs.Placed.{touches}

abbrev none : Tally
none = record { reached = 0; missed = 0; start = 0; queued = false }

beq_not : (a b : Bool) → beq a (not b) ≡ not (beq a b)
beq_not true true = refl
beq_not true false = refl
beq_not false true = refl
beq_not false false = refl

-- ---- one place
raised-reached : (b : Bool) (n : ℕ) (t : Tally) → (raised b n t).reached ≡ t.reached + cond b n 0
raised-reached true n t = refl
raised-reached false n t = omega arith

raised-missed : (b : Bool) (n : ℕ) (t : Tally) → (raised b n t).missed ≡ t.missed + cond (not b) n 0
raised-missed true n t = omega arith
raised-missed false n t = refl

raised-start : (b : Bool) (n : ℕ) (t : Tally) → (raised b n t).start ≡ t.start
raised-start true n t = refl
raised-start false n t = refl

lowered-start : (b : Bool) (n : ℕ) (t : Tally) → (lowered b n t).start ≡ 0
lowered-start true n t = refl
lowered-start false n t = refl

pub raised-queued : (b : Bool) (n : ℕ) (t : Tally) → (raised b n t).queued ≡ true
raised-queued true n t = refl
raised-queued false n t = refl

lowered-reached : (b : Bool) (n : ℕ) (t : Tally) → (lowered b n t).reached ≡ t.reached - cond b n 0
lowered-reached true n t = refl
lowered-reached false n t = omega arith

lowered-missed : (b : Bool) (n : ℕ) (t : Tally) → (lowered b n t).missed ≡ t.missed - cond (not b) n 0
lowered-missed true n t = omega arith
lowered-missed false n t = refl

pub lowered-queued : (b : Bool) (n : ℕ) (t : Tally) → (lowered b n t).queued ≡ true
lowered-queued true n t = refl
lowered-queued false n t = refl

-- a body's number of some kind, after a write
written : (f : Tally → ℕ) (g : ℕ → ℕ → ℕ) (ts : List Tally) (i w n : ℕ) (t : Tally) → i < length ts → f t ≡ g (f (tally_at ts i)) n → ((m : ℕ) → m ≡ g m 0) →
    f (tally_at (set ts i t) w) ≡ g (f (tally_at ts w)) (cond (eqb i w) n 0)
written f g ts i w n t h e z = cases (eqb i w) refl
  where
    cases : (b : Bool) → b ≡ eqb i w → f (tally_at (set ts i t) w) ≡ g (f (tally_at ts w)) (cond b n 0)
    cases true q =
        let s : i ≡ w = eqb-true i w (sym q) in
        subst (λ (v : ℕ). f (tally_at (set ts i t) v) ≡ g (f (tally_at ts v)) n) s (ap f (get_or-set_same ts i t none h) ∙ e)
    cases false q =
        let ne : w ≢ i = grind (arith, nat_tests) in
        ap f (get_or-set_other ts i w t none ne) ∙ z (f (tally_at ts w))

plus : ℕ → ℕ → ℕ
plus a b = a + b

plus_zero : (m : ℕ) → m ≡ m + 0
plus_zero m = omega arith

less_zero : (m : ℕ) → m ≡ m - 0
less_zero m = omega arith

raise-reached : (truth : Bool) (ts : List Tally) (o : Place) (w : ℕ) → o.body < length ts → (tally_at (raise truth ts o) w).reached ≡ (tally_at ts w).reached + weight_in w truth o
raise-reached truth ts o w h =
    written (λ t. t.reached) (λ a b. a + b) ts o.body w (cond (beq o.truth truth) o.weight 0) (raised (beq o.truth truth) o.weight (tally_at ts o.body)) h
    (raised-reached (beq o.truth truth) o.weight (tally_at ts o.body)) plus_zero

raise-missed : (truth : Bool) (ts : List Tally) (o : Place) (w : ℕ) → o.body < length ts → (tally_at (raise truth ts o) w).missed ≡ (tally_at ts w).missed + weight_in w (not truth) o
raise-missed truth ts o w h =
    written (λ t. t.missed) (λ a b. a + b) ts o.body w (cond (beq o.truth (not truth)) o.weight 0) (raised (beq o.truth truth) o.weight (tally_at ts o.body)) h
    (raised-missed (beq o.truth truth) o.weight (tally_at ts o.body) ∙ ap (λ b. (tally_at ts o.body).missed + cond b o.weight 0) (sym (beq_not o.truth truth))) plus_zero

raise-start : (truth : Bool) (ts : List Tally) (o : Place) (w : ℕ) → o.body < length ts → (tally_at (raise truth ts o) w).start ≡ (tally_at ts w).start
raise-start truth ts o w h =
    written (λ t. t.start) (λ a b. a) ts o.body w 0 (raised (beq o.truth truth) o.weight (tally_at ts o.body)) h (raised-start (beq o.truth truth) o.weight (tally_at ts o.body)) (λ m. refl)

lower-reached : (truth : Bool) (ts : List Tally) (o : Place) (w : ℕ) → o.body < length ts → (tally_at (lower truth ts o) w).reached ≡ (tally_at ts w).reached - weight_in w truth o
lower-reached truth ts o w h =
    written (λ t. t.reached) (λ a b. a - b) ts o.body w (cond (beq o.truth truth) o.weight 0) (lowered (beq o.truth truth) o.weight (tally_at ts o.body)) h
    (lowered-reached (beq o.truth truth) o.weight (tally_at ts o.body)) less_zero

lower-missed : (truth : Bool) (ts : List Tally) (o : Place) (w : ℕ) → o.body < length ts → (tally_at (lower truth ts o) w).missed ≡ (tally_at ts w).missed - weight_in w (not truth) o
lower-missed truth ts o w h =
    written (λ t. t.missed) (λ a b. a - b) ts o.body w (cond (beq o.truth (not truth)) o.weight 0) (lowered (beq o.truth truth) o.weight (tally_at ts o.body)) h
    (lowered-missed (beq o.truth truth) o.weight (tally_at ts o.body) ∙ ap (λ b. (tally_at ts o.body).missed - cond b o.weight 0) (sym (beq_not o.truth truth))) less_zero

-- a touched body is queued, another is as it was
marked : (ts : List Tally) (i w : ℕ) (t : Tally) → i < length ts → t.queued ≡ true → (tally_at (set ts i t) w).queued ≡ (eqb i w || (tally_at ts w).queued)
marked ts i w t h m = cases (eqb i w) refl
  where
    cases : (b : Bool) → b ≡ eqb i w → (tally_at (set ts i t) w).queued ≡ (b || (tally_at ts w).queued)
    cases true q =
        let s : i ≡ w = eqb-true i w (sym q) in
        subst (λ (v : ℕ). (tally_at (set ts i t) v).queued ≡ true) s (ap (λ (x : Tally). x.queued) (get_or-set_same ts i t none h) ∙ m)
    cases false q =
        let ne : w ≢ i = grind (arith, nat_tests) in
        ap (λ (x : Tally). x.queued) (get_or-set_other ts i w t none ne)

-- where the next look begins, after a write
started : (ts : List Tally) (i w n : ℕ) (t : Tally) → i < length ts → t.start ≡ n → (tally_at (set ts i t) w).start ≡ cond (eqb i w) n (tally_at ts w).start
started ts i w n t h e = cases (eqb i w) refl
  where
    cases : (b : Bool) → b ≡ eqb i w → (tally_at (set ts i t) w).start ≡ cond b n (tally_at ts w).start
    cases true q =
        let s : i ≡ w = eqb-true i w (sym q) in
        subst (λ (v : ℕ). (tally_at (set ts i t) v).start ≡ n) s (ap (λ (x : Tally). x.start) (get_or-set_same ts i t none h) ∙ e)
    cases false q =
        let ne : w ≢ i = grind (arith, nat_tests) in
        ap (λ (x : Tally). x.start) (get_or-set_other ts i w t none ne)

-- ---- a list of places
within_set : (ts : List Tally) (i : ℕ) (t : Tally) (places : List Place) → All (λ o. o.body < length ts) places → All (λ o. o.body < length (set ts i t)) places
within_set ts i t places a k d h = omega (arith, a k d h, length-set ts i t)

pub length-raise_all : (truth : Bool) (ts : List Tally) (places : List Place) → length (raise_all truth ts places) ≡ length ts
length-raise_all truth ts [] = refl
length-raise_all truth ts (o ∷ places) =
    length-raise_all truth (raise truth ts o) places ∙ length-set ts o.body (raised (beq o.truth truth) o.weight (tally_at ts o.body))

pub length-lower_all : (truth : Bool) (ts : List Tally) (places : List Place) → length (lower_all truth ts places) ≡ length ts
length-lower_all truth ts [] = refl
length-lower_all truth ts (o ∷ places) =
    length-lower_all truth (lower truth ts o) places ∙ length-set ts o.body (lowered (beq o.truth truth) o.weight (tally_at ts o.body))

pub raise_all-reached : (truth : Bool) (ts : List Tally) (places : List Place) (w : ℕ) → All (λ o. o.body < length ts) places →
    (tally_at (raise_all truth ts places) w).reached ≡ (tally_at ts w).reached + sum_in w truth places
raise_all-reached truth ts [] w a = omega arith
raise_all-reached truth ts (o ∷ places) w a =
    raise_all-reached truth (raise truth ts o) places w (within_set ts o.body _ places (All-tail (λ x. x.body < length ts) o places a))
    ∙ (ap (λ n. n + sum_in w truth places) (raise-reached truth ts o w (All-head (λ x. x.body < length ts) o places a)) ∙ omega (arith, sum_by-cons (weight_in w truth) o places))

pub raise_all-missed : (truth : Bool) (ts : List Tally) (places : List Place) (w : ℕ) → All (λ o. o.body < length ts) places →
    (tally_at (raise_all truth ts places) w).missed ≡ (tally_at ts w).missed + sum_in w (not truth) places
raise_all-missed truth ts [] w a = omega arith
raise_all-missed truth ts (o ∷ places) w a =
    raise_all-missed truth (raise truth ts o) places w (within_set ts o.body _ places (All-tail (λ x. x.body < length ts) o places a))
    ∙ (ap (λ n. n + sum_in w (not truth) places) (raise-missed truth ts o w (All-head (λ x. x.body < length ts) o places a)) ∙ omega (arith, sum_by-cons (weight_in w (not truth)) o places))

pub lower_all-reached : (truth : Bool) (ts : List Tally) (places : List Place) (w : ℕ) → All (λ o. o.body < length ts) places →
    (tally_at (lower_all truth ts places) w).reached ≡ (tally_at ts w).reached - sum_in w truth places
lower_all-reached truth ts [] w a = omega arith
lower_all-reached truth ts (o ∷ places) w a =
    lower_all-reached truth (lower truth ts o) places w (within_set ts o.body _ places (All-tail (λ x. x.body < length ts) o places a))
    ∙ (ap (λ n. n - sum_in w truth places) (lower-reached truth ts o w (All-head (λ x. x.body < length ts) o places a)) ∙ omega (arith, sum_by-cons (weight_in w truth) o places))

pub lower_all-missed : (truth : Bool) (ts : List Tally) (places : List Place) (w : ℕ) → All (λ o. o.body < length ts) places →
    (tally_at (lower_all truth ts places) w).missed ≡ (tally_at ts w).missed - sum_in w (not truth) places
lower_all-missed truth ts [] w a = omega arith
lower_all-missed truth ts (o ∷ places) w a =
    lower_all-missed truth (lower truth ts o) places w (within_set ts o.body _ places (All-tail (λ x. x.body < length ts) o places a))
    ∙ (ap (λ n. n - sum_in w (not truth) places) (lower-missed truth ts o w (All-head (λ x. x.body < length ts) o places a)) ∙ omega (arith, sum_by-cons (weight_in w (not truth)) o places))

or_turn : (a b c : Bool) → (a || (b || c)) ≡ ((b || a) || c)
or_turn true true c = refl
or_turn true false c = refl
or_turn false true c = refl
or_turn false false c = refl

pub raise_all-queued : (truth : Bool) (ts : List Tally) (places : List Place) (w : ℕ) → All (λ o. o.body < length ts) places →
    (tally_at (raise_all truth ts places) w).queued ≡ (touches w places || (tally_at ts w).queued)
raise_all-queued truth ts [] w a = refl
raise_all-queued truth ts (o ∷ places) w a =
    raise_all-queued truth (raise truth ts o) places w (within_set ts o.body _ places (All-tail (λ x. x.body < length ts) o places a))
    ∙ (ap (λ b. touches w places || b) (marked ts o.body w _ (All-head (λ x. x.body < length ts) o places a) (raised-queued (beq o.truth truth) o.weight (tally_at ts o.body)))
    ∙ or_turn (touches w places) (eqb o.body w) (tally_at ts w).queued)

pub lower_all-queued : (truth : Bool) (ts : List Tally) (places : List Place) (w : ℕ) → All (λ o. o.body < length ts) places →
    (tally_at (lower_all truth ts places) w).queued ≡ (touches w places || (tally_at ts w).queued)
lower_all-queued truth ts [] w a = refl
lower_all-queued truth ts (o ∷ places) w a =
    lower_all-queued truth (lower truth ts o) places w (within_set ts o.body _ places (All-tail (λ x. x.body < length ts) o places a))
    ∙ (ap (λ b. touches w places || b) (marked ts o.body w _ (All-head (λ x. x.body < length ts) o places a) (lowered-queued (beq o.truth truth) o.weight (tally_at ts o.body)))
    ∙ or_turn (touches w places) (eqb o.body w) (tally_at ts w).queued)

pub raise_all-start : (truth : Bool) (ts : List Tally) (places : List Place) (w : ℕ) → All (λ o. o.body < length ts) places → (tally_at (raise_all truth ts places) w).start ≡ (tally_at ts w).start
raise_all-start truth ts [] w a = refl
raise_all-start truth ts (o ∷ places) w a =
    raise_all-start truth (raise truth ts o) places w (within_set ts o.body _ places (All-tail (λ x. x.body < length ts) o places a))
    ∙ raise-start truth ts o w (All-head (λ x. x.body < length ts) o places a)

first_again : (a b : Bool) (n : ℕ) → cond a 0 (cond b 0 n) ≡ cond (b || a) 0 n
first_again true true n = refl
first_again true false n = refl
first_again false true n = refl
first_again false false n = refl

pub lower_all-start : (truth : Bool) (ts : List Tally) (places : List Place) (w : ℕ) → All (λ o. o.body < length ts) places →
    (tally_at (lower_all truth ts places) w).start ≡ cond (touches w places) 0 (tally_at ts w).start
lower_all-start truth ts [] w a = refl
lower_all-start truth ts (o ∷ places) w a =
    lower_all-start truth (lower truth ts o) places w (within_set ts o.body _ places (All-tail (λ x. x.body < length ts) o places a))
    ∙ (ap (λ n. cond (touches w places) 0 n) (started ts o.body w 0 _ (All-head (λ x. x.body < length ts) o places a) (lowered-start (beq o.truth truth) o.weight (tally_at ts o.body)))
    ∙ first_again (touches w places) (eqb o.body w) (tally_at ts w).start)

-- ---- the numbers fit
within_take : (n : ℕ) (places : List Place) (i : ℕ) → All (λ o. o.body < n) places → All (λ o. o.body < n) (take i places)
within_take n places i a = All-take (λ o. o.body < n) i places a

self_weight : (truth : Bool) (o : Place) → cond (beq o.truth truth) o.weight 0 ≡ weight_in o.body truth o
self_weight truth o = ap (λ b. cond b (cond (beq o.truth truth) o.weight 0) 0) (sym (eq-eqb o.body o.body refl))

pub raise_fits : (truth : Bool) (ts : List Tally) (places : List Place) (i : ℕ) (d : Place) → CanRaise truth ts places → i < length places →
    sum_for (beq (get_or places i d).truth truth) (tally_at (raise_all truth ts (take i places)) (get_or places i d).body) + (get_or places i d).weight < 2 ^ 64
raise_fits truth ts places i d can h = cases (beq o.truth truth) refl
  where
    o : Place
    o = get_or places i d

    a : All (λ x. x.body < length ts) (take i places)
    a = within_take (length ts) places i can.within

    cases : (b : Bool) → b ≡ beq o.truth truth → sum_for b (tally_at (raise_all truth ts (take i places)) o.body) + o.weight < 2 ^ 64
    cases true q =
        omega (
          arith,
          raise_all-reached truth ts (take i places) o.body a,
          can.reached o.body (can.within i d h),
          sum_by_more_le (weight_in o.body truth) places i d h,
          self_weight truth o,
          ap (λ b. cond b o.weight 0) q,
        )
    cases false q =
        omega (
          arith,
          raise_all-missed truth ts (take i places) o.body a,
          can.missed o.body (can.within i d h),
          sum_by_more_le (weight_in o.body (not truth)) places i d h,
          self_weight (not truth) o,
          ap (λ b. cond b o.weight 0) (ap not q ∙ sym (beq_not o.truth truth)),
        )

pub lower_fits : (truth : Bool) (ts : List Tally) (places : List Place) (i : ℕ) (d : Place) → CanLower truth ts places → i < length places →
    (get_or places i d).weight ≤ sum_for (beq (get_or places i d).truth truth) (tally_at (lower_all truth ts (take i places)) (get_or places i d).body)
lower_fits truth ts places i d can h = cases (beq o.truth truth) refl
  where
    o : Place
    o = get_or places i d

    a : All (λ x. x.body < length ts) (take i places)
    a = within_take (length ts) places i can.within

    cases : (b : Bool) → b ≡ beq o.truth truth → o.weight ≤ sum_for b (tally_at (lower_all truth ts (take i places)) o.body)
    cases true q =
        omega (
          arith,
          lower_all-reached truth ts (take i places) o.body a,
          can.reached o.body (can.within i d h),
          sum_by_more_le (weight_in o.body truth) places i d h,
          self_weight truth o,
          ap (λ b. cond b o.weight 0) q,
        )
    cases false q =
        omega (
          arith,
          lower_all-missed truth ts (take i places) o.body a,
          can.missed o.body (can.within i d h),
          sum_by_more_le (weight_in o.body (not truth)) places i d h,
          self_weight (not truth) o,
          ap (λ b. cond b o.weight 0) (ap not q ∙ sym (beq_not o.truth truth)),
        )
