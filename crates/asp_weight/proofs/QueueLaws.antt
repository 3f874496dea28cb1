-- The queue of bodies: one that is marked stands in it once.
use Rattle.std.proofs.Common.{◌≡◌, ◌≢◌, ℕ, suc, zero, ◌+◌, ◌-◌, ◌<◌, ◌≤◌, Bool, true, false, cond, eqb, leb, ltb, ◌&&◌, List, [], ◌∷◌, ◌++◌, length, replicate, set, count_by, refl, sym, ap, ◌∙◌, subst, arith, get_or-set_other, get_or-set_same}
use Rattle.std.specs.List.{range_with_len}
use Rattle.std.proofs.lemmas.Bool.{eq-eqb, eqb-true, false≢true}
use Rattle.std.proofs.lemmas.Bool.Decides.{nat_tests}
use Rattle.std.proofs.lemmas.Grind.{common_steps}
use Rattle.std.proofs.lemmas.List.{length-set, get_or_push}
use Rattle.std.proofs.lemmas.List.Folds.{sum_by-replicate}
use Rattle.std.proofs.lemmas.List.FromFn.{length-range_with_len}
use Rattle.std.proofs.lemmas.List.Sums.{sum_by-cons, sum_by-set, sum_by_push, count_by-le-length, get_or-le-sum_by}
use Rattle.asp_weight.specs.declared.tally.Tally.{Tally}
use Rattle.asp_weight.specs.Tallied.{IsQueue, tally_at, fresh, newest}

abbrev none : Tally
none = record { reached = 0; missed = 0; start = 0; queued = false }

abbrev one_if : Bool → ℕ
one_if b = cond b 1 0

-- 1 where the counter is marked
abbrev ones : Tally → ℕ
ones t = one_if t.queued

abbrev same : ℕ → ℕ → ℕ
same w q = cond (eqb q w) 1 0

-- a marked body is one of the list
pub marked_within : (ts : List Tally) (w : ℕ) → (tally_at ts w).queued ≡ true → w < length ts
marked_within [] w h = absurd (false≢true h)
marked_within (t ∷ ts) zero h = omega arith
marked_within (t ∷ ts) (suc w) h = omega (arith, marked_within ts w h)

-- where a body isn't marked there is room
pub free : (ts : List Tally) (queue : List ℕ) (room w : ℕ) → IsQueue ts queue room → w < length ts → (tally_at ts w).queued ≡ false → length queue < room
free ts queue room w q h n =
    omega (arith, q.counted, q.fits, ap one_if n, length-set ts w fresh, count_by-le-length (λ t. t.queued) (set ts w fresh), sum_by-set ones ts w fresh none h)

-- a body that wasn't marked joins the queue
pub joins : (ts : List Tally) (queue : List ℕ) (room w : ℕ) (t : Tally) → IsQueue ts queue room → w < length ts → (tally_at ts w).queued ≡ false → t.queued ≡ true →
    IsQueue (set ts w t) (queue ++ w ∷ []) room
joins ts queue room w t q h n m = record {
  counted = omega (arith, q.counted, ap one_if n, ap one_if m, sum_by-set ones ts w t none h, length_more);
  listed = λ v. at v (eqb w v) refl;
  fits = omega (arith, q.fits, length-set ts w t);
}
  where
    length_more : length (queue ++ w ∷ []) ≡ length queue + 1
    length_more = grind (arith, common_steps)

    at : (v : ℕ) (b : Bool) → b ≡ eqb w v → count_by (λ x. eqb x v) (queue ++ w ∷ []) ≡ cond (tally_at (set ts w t) v).queued 1 0
    at v true e =
        let s : w ≡ v = eqb-true w v (sym e) in
        subst (λ (u : ℕ). count_by (λ x. eqb x u) (queue ++ w ∷ []) ≡ cond (tally_at (set ts w t) u).queued 1 0) s
        (sum_by_push (same w) queue w
        ∙ (ap (λ k. k + same w w) (q.listed w ∙ ap one_if n)
        ∙ (ap (λ b. 0 + one_if b) (eq-eqb w w refl)
        ∙ sym (ap ones (get_or-set_same ts w t none h) ∙ ap one_if m))))
    at v false e =
        let ne : v ≢ w = grind (arith, nat_tests) in
        sum_by_push (same v) queue w
        ∙ (ap (λ b. count_by (λ x. eqb x v) queue + one_if b) (sym e)
        ∙ (omega arith
        ∙ (q.listed v ∙ sym (ap ones (get_or-set_other ts w v t none ne)))))

-- a write that leaves the mark leaves the queue
pub stays_as : (ts : List Tally) (queue : List ℕ) (room w : ℕ) (t : Tally) → IsQueue ts queue room → w < length ts → t.queued ≡ (tally_at ts w).queued → IsQueue (set ts w t) queue room
stays_as ts queue room w t q h m = record {
  counted = omega (arith, q.counted, ap one_if m, sum_by-set ones ts w t none h);
  listed = λ v. at v (eqb w v) refl;
  fits = omega (arith, q.fits, length-set ts w t);
}
  where
    at : (v : ℕ) (b : Bool) → b ≡ eqb w v → count_by (λ x. eqb x v) queue ≡ cond (tally_at (set ts w t) v).queued 1 0
    at v true e =
        let s : w ≡ v = eqb-true w v (sym e) in
        subst (λ (u : ℕ). count_by (λ x. eqb x u) queue ≡ cond (tally_at (set ts w t) u).queued 1 0) s
        (q.listed w ∙ sym (ap ones (get_or-set_same ts w t none h) ∙ ap one_if m))
    at v false e =
        let ne : v ≢ w = grind (arith, nat_tests) in
        q.listed v ∙ sym (ap ones (get_or-set_other ts w v t none ne))

-- a body that was marked stays where it is
pub stays : (ts : List Tally) (queue : List ℕ) (room w : ℕ) (t : Tally) → IsQueue ts queue room → w < length ts → (tally_at ts w).queued ≡ true → t.queued ≡ true →
    IsQueue (set ts w t) queue room
stays ts queue room w t q h n m = stays_as ts queue room w t q h (m ∙ sym n)

-- the body that was queued last is marked
pub newest_marked : (ts : List Tally) (queue : List ℕ) (room : ℕ) → IsQueue ts queue room → 0 < length queue → (tally_at ts (newest queue)).queued ≡ true
newest_marked ts queue room q h = marked (tally_at ts w).queued (q.listed w) one
  where
    w : ℕ
    w = newest queue

    one : 1 ≤ count_by (λ x. eqb x w) queue
    one = omega (arith, ap one_if (eq-eqb w w refl), get_or-le-sum_by (same w) queue (length queue - 1) 0 (omega arith))

    marked : (b : Bool) → count_by (λ x. eqb x w) queue ≡ cond b 1 0 → 1 ≤ count_by (λ x. eqb x w) queue → b ≡ true
    marked true e l = refl
    marked false e l = absurd (omega (arith, e, l))

-- the last one leaves
pub leaves : (ts : List Tally) (queue rest : List ℕ) (room w : ℕ) (t : Tally) → IsQueue ts queue room → queue ≡ rest ++ w ∷ [] → t.queued ≡ false → IsQueue (set ts w t) rest room
leaves ts queue rest room w t q e m = record {
  counted = omega (arith, q.counted, length_less, ap one_if was, ap one_if m, sum_by-set ones ts w t none h);
  listed = λ v. at v (eqb w v) refl;
  fits = omega (arith, q.fits, length-set ts w t);
}
  where
    length_less : length queue ≡ length rest + 1
    length_less = ap length e ∙ grind (arith, common_steps)

    was : (tally_at ts w).queued ≡ true
    was = ap (λ v. (tally_at ts v).queued) at_end ∙ newest_marked ts queue room q (omega (arith, length_less))
      where
        at_end : w ≡ newest queue
        at_end = sym (ap newest e ∙ get_or_push rest w 0 (length (rest ++ w ∷ []) - 1) (omega (arith, ap length e, length_less)))

    h : w < length ts
    h = marked_within ts w was

    split : (v : ℕ) → count_by (λ x. eqb x v) rest + same v w ≡ cond (tally_at ts v).queued 1 0
    split v = sym (sum_by_push (same v) rest w) ∙ (sym (ap (λ xs. count_by (λ x. eqb x v) xs) e) ∙ q.listed v)

    at : (v : ℕ) (b : Bool) → b ≡ eqb w v → count_by (λ x. eqb x v) rest ≡ cond (tally_at (set ts w t) v).queued 1 0
    at v true s' =
        let s : w ≡ v = eqb-true w v (sym s') in
        subst (λ (u : ℕ). count_by (λ x. eqb x u) rest ≡ cond (tally_at (set ts w t) u).queued 1 0) s
        (omega (arith, split w, ap one_if was, ap one_if (eq-eqb w w refl)) ∙ sym (ap ones (get_or-set_same ts w t none h) ∙ ap one_if m))
    at v false s' =
        let ne : v ≢ w = grind (arith, nat_tests) in
        omega (arith, split v, ap one_if (sym s')) ∙ sym (ap ones (get_or-set_other ts w v t none ne))

-- with an empty queue no body is marked
pub none_marked : (ts : List Tally) (room : ℕ) → IsQueue ts [] room → (w : ℕ) → (tally_at ts w).queued ≡ false
none_marked ts room q w = unmarked (tally_at ts w).queued (q.listed w)
  where
    unmarked : (b : Bool) → count_by (λ x. eqb x w) [] ≡ one_if b → b ≡ false
    unmarked true e = absurd (omega (arith, e))
    unmarked false e = refl

-- ---- the start, with all bodies queued
marked_all : (n w : ℕ) → (tally_at (replicate n fresh) w).queued ≡ ltb w n
marked_all zero w = grind (arith, nat_tests)
marked_all (suc n) zero = sym (below_suc n)
  where
    below_suc : (n : ℕ) → ltb 0 (suc n) ≡ true
    below_suc n = grind (arith, nat_tests)
marked_all (suc n) (suc w) = marked_all n w ∙ below_both w n
  where
    below_both : (w n : ℕ) → ltb w n ≡ ltb (suc w) (suc n)
    below_both w n = grind (arith, nat_tests)

counted_all : (n : ℕ) → count_by (λ (t : Tally). t.queued) (replicate n fresh) ≡ n
counted_all n = sum_by-replicate ones n fresh ∙ omega arith

in_range : (n a w : ℕ) → count_by (λ x. eqb x w) (range_with_len a n) ≡ one_if (leb a w && ltb w (a + n))
in_range zero a w = none_below a w
  where
    none_below : (a w : ℕ) → 0 ≡ one_if (leb a w && ltb w (a + 0))
    none_below a w = grind (arith, nat_tests)
in_range (suc n) a w =
    sum_by-cons (same w) a (range_with_len (a + 1) n) ∙ one_more a n w _ (in_range n (a + 1) w)
  where
    one_more : (a n w c : ℕ) → c ≡ one_if (leb (a + 1) w && ltb w (a + 1 + n)) → one_if (eqb a w) + c ≡ one_if (leb a w && ltb w (a + suc n))
    one_more a n w c e = grind (arith, nat_tests)

below : (n w : ℕ) → (leb 0 w && ltb w (0 + n)) ≡ ltb w n
below n w = grind (arith, nat_tests)

pub starts : (ts : List Tally) (queue : List ℕ) (room n : ℕ) → ts ≡ replicate n fresh → queue ≡ range_with_len 0 n → length queue ≤ room → IsQueue ts queue room
starts ts queue room n e f h = record {
  counted = ap length f ∙ (length-range_with_len 0 n ∙ sym (ap (λ xs. count_by (λ (t : Tally). t.queued) xs) e ∙ counted_all n));
  listed = λ w. ap (λ xs. count_by (λ x. eqb x w) xs) f ∙ (in_range n 0 w ∙ (ap one_if (below n w ∙ sym (marked_all n w)) ∙ ap (λ xs. ones (tally_at xs w)) (sym e)));
  fits = omega (arith, h, ap length f, length-range_with_len 0 n, ap length e, length-fresh);
}
  where
    length-fresh : length (replicate n fresh) ≡ n
    length-fresh = grind (arith, common_steps)

-- the last body of the queue is one of the list
pub last_within : (ts : List Tally) (queue rest : List ℕ) (room w : ℕ) → IsQueue ts queue room → queue ≡ rest ++ w ∷ [] → w < length ts
last_within ts queue rest room w q e =
    marked_within ts w (ap (λ v. (tally_at ts v).queued) at_end ∙ newest_marked ts queue room q (omega (arith, length_less)))
  where
    length_less : length queue ≡ length rest + 1
    length_less = ap length e ∙ grind (arith, common_steps)

    at_end : w ≡ newest queue
    at_end = sym (ap newest e ∙ get_or_push rest w 0 (length (rest ++ w ∷ []) - 1) (omega (arith, ap length e, length_less)))
