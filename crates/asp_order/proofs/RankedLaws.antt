-- What every heap keeps, through each of its changes.
use Rattle.std.proofs.Common.{◌≡◌, ◌≢◌, ℕ, suc, zero, ◌+◌, ◌-◌, ◌*◌, ◌/◌, ◌^◌, ◌<◌, ◌≤◌, Bool, true, false, cond, max, List, ◌++◌, length, get_or, set, map, replicate, refl, sym, ap, ◌∙◌, subst, arith, inl, inr, ◌⊎◌}
use Rattle.std.specs.List.{All, count_by}
use Rattle.std.proofs.lemmas.Bool.{false≢true}
use Rattle.std.proofs.lemmas.List.{length-append, length-set, length-replicate, length-map, get_or_append_left, get_or-append-add}
use Rattle.std.proofs.lemmas.List.Elements.{All-set, All-append, All-replicate, All-map}
use Rattle.std.proofs.lemmas.List.Sums.{sum_by-set, sum_by-append, count_by-le-length}
use Rattle.asp_order.specs.Heaps.{Ranking, is_in, IsFirst}
use Rattle.asp_order.specs.Sifting.{rank, rank_at, parent, IsHeap, IsPlaced, IsRanked}
use Rattle.asp_order.proofs.SiftLaws.{first_best}
use Rattle.asp_order.proofs.PlacedLaws.{within_members, rank_precedes}

ones : Bool → ℕ
ones b = cond b 1 0

pub counted_in : (m : List Bool) (v : ℕ) → v < length m → is_in m v ≡ false → count_by (λ b. b) (set m v true) ≡ count_by (λ b. b) m + 1
counted_in m v h out =
    let f : Bool → ℕ = λ b. cond b 1 0 in
    omega (arith, sum_by-set f m v true false h, ap f out)

-- there is room for one that isn't in it
pub room_left : (m : List Bool) (v : ℕ) → v < length m → is_in m v ≡ false → count_by (λ b. b) m < length m
room_left m v h out =
    omega (arith, counted_in m v h out, count_by-le-length (λ b. b) (set m v true), length-set m v true)

no_more : (k : ℕ) → count_by (λ b. b) (replicate k false) ≡ 0
no_more zero = refl
no_more (suc k) = no_more k

-- the first item is a member that precedes all
pub first_is_first : (h : Ranking) (places items : List ℕ) (room : ℕ) → IsRanked h.activities h.members places items h.increment room → 0 < length items →
    IsFirst h (get_or items 0 0)
first_is_first h places items room t some = record {
  member = t.placed.items_in 0 some;
  best = λ w m.
      let at = t.placed.member_at w m in
      let is = t.placed.member_is w m in
      let le = first_best (rank_at h.activities items) (length items) t.heap (get_or places w 0) at in
      rank_precedes h.activities (get_or items 0 0) w (t.placed.numbers 0 some) (omega (arith, is, t.placed.numbers (get_or places w 0) at))
      (omega (arith, le, ap (rank h.activities) is));
}

pub ranked_grown : (a : List ℕ) (m : List Bool) (places items new after : List ℕ) (increment room v x : ℕ) → IsRanked a m places items increment room → x ≤ 2 ^ 60 →
    length after ≡ length places → length new ≡ length items → IsPlaced m new after → IsHeap (rank_at (set a v x) new) (length new) →
    IsRanked (set a v x) m after new increment room
ranked_grown a m places items new after increment room v x t small pl il placed heap = record {
  sized = t.sized ∙ sym (length-set a v x);
  placed_len = pl ∙ (t.placed_len ∙ sym (length-set a v x));
  roomy = omega (arith, t.roomy, length-set a v x);
  counted = il ∙ t.counted;
  placed = placed;
  heap = heap;
  bounded = All-set (λ n. n ≤ 2 ^ 60) a v x small t.bounded;
  increment_low = t.increment_low;
  increment_high = t.increment_high;
}

-- one more member
pub ranked_push : (a : List ℕ) (m : List Bool) (places items new after : List ℕ) (increment room more v : ℕ) → IsRanked a m places items increment room → room ≤ more →
    v < length a → is_in m v ≡ false → length after ≡ length places → length new ≡ length items + 1 → IsPlaced (set m v true) new after → IsHeap (rank_at a new) (length new) →
    IsRanked a (set m v true) after new increment more
ranked_push a m places items new after increment room more v t le h out pl il placed heap = record {
  sized = length-set m v true ∙ t.sized;
  placed_len = pl ∙ t.placed_len;
  roomy = omega (arith, t.roomy, le);
  counted = omega (arith, il, t.counted, counted_in m v (omega (arith, h, t.sized)) out);
  placed = placed;
  heap = heap;
  bounded = t.bounded;
  increment_low = t.increment_low;
  increment_high = t.increment_high;
}

-- more variables with an activity
pub ranked_reserved : (a : List ℕ) (m : List Bool) (places items : List ℕ) (increment room more k : ℕ) → IsRanked a m places items increment room → length a + k ≤ more →
    IsRanked (a ++ replicate k 0) (m ++ replicate k false) (places ++ replicate k 0) items increment more
ranked_reserved a m places items increment room more k t le = record {
  sized = omega (arith, length-append m (replicate k false), length-append a (replicate k 0), length-replicate k false, length-replicate {A = ℕ} k 0, t.sized);
  placed_len = omega (arith, length-append places (replicate k 0), length-append a (replicate k 0), length-replicate {A = ℕ} k 0, t.placed_len);
  roomy = omega (arith, length-append a (replicate k 0), length-replicate {A = ℕ} k 0, le);
  counted = omega (arith, t.counted, sum_by-append (λ b. cond b 1 0) m (replicate k false), no_more k);
  placed = record {
    items_in = λ j h. let l = within_members m (get_or items j 0) (t.placed.items_in j h) in
        get_or_append_left m (replicate k false) false (get_or items j 0) l ∙ t.placed.items_in j h;
    items_at = λ j h. get_or_append_left places (replicate k 0) 0 (get_or items j 0) (t.placed.small j h) ∙ t.placed.items_at j h;
    small = λ j h. omega (arith, t.placed.small j h, length-append places (replicate k 0));
    numbers = t.placed.numbers;
    member_at = λ w h. let o = old w h in omega (arith, t.placed.member_at w o, place w o);
    member_is = λ w h. let o = old w h in ap (λ n. get_or items n 0) (place w o) ∙ t.placed.member_is w o;
  };
  heap = λ j p h. omega (arith, t.heap j p h, same j h, same (parent j) (omega arith));
  bounded = All-append (λ n. n ≤ 2 ^ 60) a (replicate k 0) t.bounded (All-replicate (λ n. n ≤ 2 ^ 60) k 0 (omega arith));
  increment_low = t.increment_low;
  increment_high = t.increment_high;
}
  where
    none : (j n : ℕ) → get_or (replicate n false) j false ≡ false
    none j zero = refl
    none zero (suc n) = refl
    none (suc j) (suc n) = none j n

    lt_or : (p q : ℕ) → (p < q) ⊎ (q ≤ p)
    lt_or p q = grind arith

    old : (w : ℕ) → is_in (m ++ replicate k false) w ≡ true → is_in m w ≡ true
    old w h = elim (lt_or w (length m)) [
      | inl l ↦ sym (get_or_append_left m (replicate k false) false w l) ∙ h
      | inr g ↦
          let e : w ≡ length m + (w - length m) = omega (arith, g) in
          absurd (false≢true (sym (ap (λ n. get_or (m ++ replicate k false) n false) e ∙ (get_or-append-add m (replicate k false) (w - length m) false ∙ none (w - length m) k)) ∙ h))
    ]

    place : (w : ℕ) → is_in m w ≡ true → get_or (places ++ replicate k 0) w 0 ≡ get_or places w 0
    place w o = get_or_append_left places (replicate k 0) 0 w (omega (arith, within_members m w o, t.sized, t.placed_len))

    same : (j : ℕ) → j < length items → rank_at (a ++ replicate k 0) items j ≡ rank_at a items j
    same j h =
        ap (λ n. n * 2 ^ 32 + (2 ^ 32 - get_or items j 0))
        (get_or_append_left a (replicate k 0) 0 (get_or items j 0) (omega (arith, t.placed.small j h, t.placed_len)))

-- divided activities
pub all_divided : (a : List ℕ) → All (λ n. n ≤ 2 ^ 60) a → All (λ n. n ≤ 2 ^ 30) (map (λ n. n / 2 ^ 30) a)
all_divided a h = All-map (λ n. n ≤ 2 ^ 30) (λ n. n / 2 ^ 30) a (λ i d l. let le = h i d l in omega (arith, le))

pub ranked_divided : (a divided : List ℕ) (m : List Bool) (places items new after : List ℕ) (increment next room : ℕ) → IsRanked a m places items increment room →
    divided ≡ map (λ n. n / 2 ^ 30) a → next ≡ max (increment / 2 ^ 30) 1024 → length after ≡ length places → length new ≡ length items →
    IsPlaced m new after → IsHeap (rank_at divided new) (length new) → IsRanked divided m after new next room
ranked_divided a divided m places items new after increment next room t dq nq pl il placed heap = record {
  sized = omega (arith, t.sized, len);
  placed_len = omega (arith, pl, t.placed_len, len);
  roomy = omega (arith, t.roomy, len);
  counted = il ∙ t.counted;
  placed = placed;
  heap = heap;
  bounded = subst (λ (xs : List ℕ). All (λ n. n ≤ 2 ^ 60) xs) (sym dq) (λ i d l. let le = all_divided a t.bounded i d l in omega (arith, le));
  increment_low = omega (arith, nq);
  increment_high = omega (arith, nq, t.increment_high);
}
  where
    len : length divided ≡ length a
    len = ap (length {A = ℕ}) dq ∙ length-map a (λ n. n / 2 ^ 30)
