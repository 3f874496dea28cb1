-- The queue of numbers: one that is marked stands in it once.
use Rattle.std.proofs.Common.{◌≡◌, ◌≢◌, ℕ, suc, zero, ◌+◌, ◌-◌, ◌<◌, ◌≤◌, Bool, true, false, cond, ◌||◌, eqb, List, [], ◌∷◌, ◌++◌, length, replicate, set, get_or, count_by, refl, sym, ap, ◌∙◌, subst, arith, get_or-set_other, get_or-set_same}
use Rattle.std.specs.List.{list_any}
use Rattle.std.proofs.lemmas.Bool.{eq-eqb, eqb-true, false≢true}
use Rattle.std.proofs.lemmas.Bool.Decides.{nat_tests}
use Rattle.std.proofs.lemmas.Grind.{common_steps}
use Rattle.std.proofs.lemmas.List.{length-set, get_or_push, length-replicate}
use Rattle.std.proofs.lemmas.List.Folds.{sum_by-replicate}
use Rattle.std.proofs.lemmas.List.Sums.{sum_by-cons, sum_by-set, sum_by_push, count_by-le-length, get_or-le-sum_by}
use Rattle.asp_source.specs.Queues.{IsQueue}
use Rattle.asp_source.specs.Marks.{is_marked}

-- the number that was added last
abbrev pub newest : List ℕ → ℕ
newest queue = get_or queue (length queue - 1) 0

abbrev one_if : Bool → ℕ
one_if b = cond b 1 0

abbrev same : ℕ → ℕ → ℕ
same w q = cond (eqb q w) 1 0

-- a marked number is one of the list
pub marked_within : (ts : List Bool) (w : ℕ) → (is_marked ts w) ≡ true → w < length ts
marked_within [] w h = absurd (false≢true h)
marked_within (t ∷ ts) zero h = omega arith
marked_within (t ∷ ts) (suc w) h = omega (arith, marked_within ts w h)

-- where a number isn't marked there is room
pub free : (ts : List Bool) (queue : List ℕ) (room w : ℕ) → IsQueue ts queue room → w < length ts → (is_marked ts w) ≡ false → length queue < room
free ts queue room w q h n =
    omega (arith, q.counted, q.fits, ap one_if n, length-set ts w true, count_by-le-length (λ b. b) (set ts w true), sum_by-set one_if ts w true false h)

-- a number that wasn't marked joins the queue
pub joins : (ts : List Bool) (queue : List ℕ) (room w : ℕ) (t : Bool) → IsQueue ts queue room → w < length ts → (is_marked ts w) ≡ false → t ≡ true →
    IsQueue (set ts w t) (queue ++ w ∷ []) room
joins ts queue room w t q h n m = record {
  counted = omega (arith, q.counted, ap one_if n, ap one_if m, sum_by-set one_if ts w t false h, length_more);
  listed = λ v. at v (eqb w v) refl;
  fits = omega (arith, q.fits, length-set ts w t);
}
  where
    length_more : length (queue ++ w ∷ []) ≡ length queue + 1
    length_more = grind (arith, common_steps)

    at : (v : ℕ) (b : Bool) → b ≡ eqb w v → count_by (λ x. eqb x v) (queue ++ w ∷ []) ≡ cond (is_marked (set ts w t) v) 1 0
    at v true e =
        let s : w ≡ v = eqb-true w v (sym e) in
        subst (λ (u : ℕ). count_by (λ x. eqb x u) (queue ++ w ∷ []) ≡ cond (is_marked (set ts w t) u) 1 0) s
        (sum_by_push (same w) queue w
        ∙ (ap (λ k. k + same w w) (q.listed w ∙ ap one_if n)
        ∙ (ap (λ b. 0 + one_if b) (eq-eqb w w refl)
        ∙ sym (ap one_if (get_or-set_same ts w t false h) ∙ ap one_if m))))
    at v false e =
        let ne : v ≢ w = grind (arith, nat_tests) in
        sum_by_push (same v) queue w
        ∙ (ap (λ b. count_by (λ x. eqb x v) queue + one_if b) (sym e)
        ∙ (omega arith
        ∙ (q.listed v ∙ sym (ap one_if (get_or-set_other ts w v t false ne)))))

-- a number that was marked stays where it is
pub stays : (ts : List Bool) (queue : List ℕ) (room w : ℕ) (t : Bool) → IsQueue ts queue room → w < length ts → (is_marked ts w) ≡ true → t ≡ true →
    IsQueue (set ts w t) queue room
stays ts queue room w t q h n m = record {
  counted = omega (arith, q.counted, ap one_if n, ap one_if m, sum_by-set one_if ts w t false h);
  listed = λ v. at v (eqb w v) refl;
  fits = omega (arith, q.fits, length-set ts w t);
}
  where
    at : (v : ℕ) (b : Bool) → b ≡ eqb w v → count_by (λ x. eqb x v) queue ≡ cond (is_marked (set ts w t) v) 1 0
    at v true e =
        let s : w ≡ v = eqb-true w v (sym e) in
        subst (λ (u : ℕ). count_by (λ x. eqb x u) queue ≡ cond (is_marked (set ts w t) u) 1 0) s
        (q.listed w ∙ (ap one_if n ∙ sym (ap one_if (get_or-set_same ts w t false h) ∙ ap one_if m)))
    at v false e =
        let ne : v ≢ w = grind (arith, nat_tests) in
        q.listed v ∙ sym (ap one_if (get_or-set_other ts w v t false ne))

-- the number that was queued last is marked
pub newest_marked : (ts : List Bool) (queue : List ℕ) (room : ℕ) → IsQueue ts queue room → 0 < length queue → (is_marked ts (newest queue)) ≡ true
newest_marked ts queue room q h = marked (is_marked ts w) (q.listed w) one
  where
    w : ℕ
    w = newest queue

    one : 1 ≤ count_by (λ x. eqb x w) queue
    one = omega (arith, ap one_if (eq-eqb w w refl), get_or-le-sum_by (same w) queue (length queue - 1) 0 (omega arith))

    marked : (b : Bool) → count_by (λ x. eqb x w) queue ≡ cond b 1 0 → 1 ≤ count_by (λ x. eqb x w) queue → b ≡ true
    marked true e l = refl
    marked false e l = absurd (omega (arith, e, l))

-- the last one leaves
pub leaves : (ts : List Bool) (queue rest : List ℕ) (room w : ℕ) (t : Bool) → IsQueue ts queue room → queue ≡ rest ++ w ∷ [] → t ≡ false → IsQueue (set ts w t) rest room
leaves ts queue rest room w t q e m = record {
  counted = omega (arith, q.counted, length_less, ap one_if was, ap one_if m, sum_by-set one_if ts w t false h);
  listed = λ v. at v (eqb w v) refl;
  fits = omega (arith, q.fits, length-set ts w t);
}
  where
    length_less : length queue ≡ length rest + 1
    length_less = ap length e ∙ grind (arith, common_steps)

    was : (is_marked ts w) ≡ true
    was = ap (λ v. (is_marked ts v)) at_end ∙ newest_marked ts queue room q (omega (arith, length_less))
      where
        at_end : w ≡ newest queue
        at_end = sym (ap newest e ∙ get_or_push rest w 0 (length (rest ++ w ∷ []) - 1) (omega (arith, ap length e, length_less)))

    h : w < length ts
    h = marked_within ts w was

    split : (v : ℕ) → count_by (λ x. eqb x v) rest + same v w ≡ cond (is_marked ts v) 1 0
    split v = sym (sum_by_push (same v) rest w) ∙ (sym (ap (λ xs. count_by (λ x. eqb x v) xs) e) ∙ q.listed v)

    at : (v : ℕ) (b : Bool) → b ≡ eqb w v → count_by (λ x. eqb x v) rest ≡ cond (is_marked (set ts w t) v) 1 0
    at v true s' =
        let s : w ≡ v = eqb-true w v (sym s') in
        subst (λ (u : ℕ). count_by (λ x. eqb x u) rest ≡ cond (is_marked (set ts w t) u) 1 0) s
        (omega (arith, split w, ap one_if was, ap one_if (eq-eqb w w refl)) ∙ sym (ap one_if (get_or-set_same ts w t false h) ∙ ap one_if m))
    at v false s' =
        let ne : v ≢ w = grind (arith, nat_tests) in
        omega (arith, split v, ap one_if (sym s')) ∙ sym (ap one_if (get_or-set_other ts w v t false ne))

-- with an empty queue no number is marked
pub none_marked : (ts : List Bool) (room : ℕ) → IsQueue ts [] room → (w : ℕ) → (is_marked ts w) ≡ false
none_marked ts room q w = unmarked (is_marked ts w) (q.listed w)
  where
    unmarked : (b : Bool) → count_by (λ x. eqb x w) [] ≡ one_if b → b ≡ false
    unmarked true e = absurd (omega (arith, e))
    unmarked false e = refl

pub none_in_empty : (ts : List Bool) (queue : List ℕ) (room : ℕ) → IsQueue ts queue room → length queue ≡ 0 → (w : ℕ) → (is_marked ts w) ≡ false
none_in_empty ts [] room q e w = none_marked ts room q w
none_in_empty ts (x ∷ queue) room q e w = absurd (omega (arith, e))

-- the last number of the queue is below the count
pub last_within : (ts : List Bool) (queue rest : List ℕ) (room w : ℕ) → IsQueue ts queue room → queue ≡ rest ++ w ∷ [] → (w < length ts) × ((is_marked ts w) ≡ true)
last_within ts queue rest room w q e = (marked_within ts w was, was)
  where
    length_less : length queue ≡ length rest + 1
    length_less = ap length e ∙ grind (arith, common_steps)

    at_end : w ≡ newest queue
    at_end = sym (ap newest e ∙ get_or_push rest w 0 (length (rest ++ w ∷ []) - 1) (omega (arith, ap length e, length_less)))

    was : (is_marked ts w) ≡ true
    was = ap (is_marked ts) at_end ∙ newest_marked ts queue room q (omega (arith, length_less))

-- taking a mark away leaves fewer
pub fewer : (ts : List Bool) (w : ℕ) → w < length ts → (is_marked ts w) ≡ true → count_by (λ b. b) (set ts w false) < count_by (λ b. b) ts
fewer ts w h m = omega (arith, ap one_if m, sum_by-set one_if ts w false false h)

-- a mark more
pub one_more : (ts : List Bool) (w : ℕ) → w < length ts → count_by (λ b. b) (set ts w true) ≤ count_by (λ b. b) ts + 1
one_more ts w h = omega (arith, sum_by-set one_if ts w true false h)

none_at : (n w : ℕ) → get_or (replicate n false) w false ≡ false
none_at zero w = refl
none_at (suc n) zero = refl
none_at (suc n) (suc w) = none_at n w

-- at the start
pub starts : (ts : List Bool) (queue : List ℕ) (room n : ℕ) → ts ≡ replicate n false → queue ≡ [] → n ≤ room → IsQueue ts queue room
starts ts queue room n e f h = record {
  counted = ap length f ∙ sym (ap (λ xs. count_by (λ b. b) xs) e ∙ sum_by-replicate one_if n false ∙ omega arith);
  listed = λ w. ap (λ xs. count_by (λ x. eqb x w) xs) f ∙ sym (ap (λ xs. one_if (is_marked xs w)) e ∙ ap one_if (none_at n w));
  fits = omega (arith, h, ap length e, length-replicate n false);
}

-- what stands in the queue is marked, and all that is marked stands there
pub queue_within : (ts : List Bool) (queue : List ℕ) (room i d : ℕ) → IsQueue ts queue room → i < length queue → get_or queue i d < length ts
queue_within ts queue room i d q lt = marked_within ts w (marked (is_marked ts w) (q.listed w) one)
  where
    w : ℕ
    w = get_or queue i d

    one : 1 ≤ count_by (λ x. eqb x w) queue
    one = omega (arith, ap one_if (eq-eqb w w refl), get_or-le-sum_by (same w) queue i d lt)

    marked : (b : Bool) → count_by (λ x. eqb x w) queue ≡ cond b 1 0 → 1 ≤ count_by (λ x. eqb x w) queue → b ≡ true
    marked true e l = refl
    marked false e l = absurd (omega (arith, e, l))

counted_there : (xs : List ℕ) (k : ℕ) → 1 ≤ count_by (λ x. eqb x k) xs → list_any (λ x. eqb x k) xs ≡ true
counted_there [] k h = absurd (omega (arith, h))
counted_there (x ∷ xs) k h = cases (eqb x k) (subst (λ (n : ℕ). 1 ≤ n) (sum_by-cons (same k) x xs) h) (counted_there xs k)
  where
    cases : (b : Bool) → 1 ≤ cond b 1 0 + count_by (λ x. eqb x k) xs → (1 ≤ count_by (λ x. eqb x k) xs → list_any (λ x. eqb x k) xs ≡ true) → (b || list_any (λ x. eqb x k) xs) ≡ true
    cases true l later = refl
    cases false l later = later (omega (arith, l))

pub queue_all : (ts : List Bool) (queue : List ℕ) (room k : ℕ) → IsQueue ts queue room → is_marked ts k ≡ true → list_any (λ x. eqb x k) queue ≡ true
queue_all ts queue room k q marked = counted_there queue k (let e = q.listed k ∙ ap one_if marked in omega (arith, e))
