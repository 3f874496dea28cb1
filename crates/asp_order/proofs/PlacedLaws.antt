-- Items and their places, where one is put in and where one is taken out.
use Rattle.std.proofs.Common.{◌≡◌, ◌≢◌, ℕ, ◌+◌, ◌-◌, ◌*◌, ◌^◌, ◌<◌, ◌≤◌, Bool, true, false, eqb, List, [], ◌∷◌, ◌++◌, length, get_or, set, refl, sym, ap, ◌∙◌, arith, get_or-set_same, get_or-set_other, inl, inr, ◌⊎◌}
use Rattle.std.proofs.lemmas.Bool.{eqb-true, false≢true}
use Rattle.std.proofs.lemmas.Bool.Decides.{nat_tests}
use Rattle.std.proofs.lemmas.List.{length-append, length-set, get_or_append_left, get_or_push, get_or_past}
use Rattle.asp_order.specs.Heaps.{is_in, Precedes}
use Rattle.asp_order.specs.Sifting.{rank, IsPlaced}

-- a member is among the places of a list that says who is one
pub within_members : (m : List Bool) (v : ℕ) → is_in m v ≡ true → v < length m
within_members m v h = cases (length m) refl
  where
    cases : (n : ℕ) → n ≡ length m → v < length m
    cases n q = elim (lt_or v n) [ inl l ↦ omega (arith, l, q) | inr g ↦ absurd (false≢true (sym (get_or_past m v false (omega (arith, g, q))) ∙ h)) ]
      where
        lt_or : (a b : ℕ) → (a < b) ⊎ (b ≤ a)
        lt_or a b = grind arith

-- what is a member after one was taken out is another one
pub left_in : (m : List Bool) (top v : ℕ) → is_in m top ≡ true → is_in (set m top false) v ≡ true → (v ≢ top) × (is_in m v ≡ true)
left_in m top v t h = cases (eqb v top) refl
  where
    cases : (b : Bool) → b ≡ eqb v top → (v ≢ top) × (is_in m v ≡ true)
    cases true q =
        let e : v ≡ top = eqb-true v top (sym q) in
        absurd (false≢true (sym (get_or-set_same m top false false (within_members m top t)) ∙ (ap (λ w. get_or (set m top false) w false) (sym e) ∙ h)))
    cases false q =
        let ne : v ≢ top = grind (arith, nat_tests) in
        (ne, sym (get_or-set_other m top v false false ne) ∙ h)

stays_in : (m : List Bool) (top v : ℕ) → v ≢ top → is_in m v ≡ true → is_in (set m top false) v ≡ true
stays_in m top v ne h = get_or-set_other m top v false false ne ∙ h

-- the only item is taken out
pub placed_none : (m : List Bool) (last : ℕ) (places : List ℕ) → IsPlaced m (last ∷ []) places → IsPlaced (set m last false) [] places
placed_none m last places p = record {
  items_in = λ k h. absurd (omega arith);
  items_at = λ k h. absurd (omega arith);
  small = λ k h. absurd (omega arith);
  numbers = λ k h. absurd (omega arith);
  member_at = λ v h. absurd (none v h);
  member_is = λ v h. absurd (none v h);
}
  where
    none : (v : ℕ) → is_in (set m last false) v ≡ true → ⊥
    none v h =
        let f = left_in m last v (p.items_in 0 (omega arith)) h in
        let z : get_or places v 0 ≡ 0 = omega (arith, p.member_at v f.1) in
        f.0 (sym (p.member_is v f.1) ∙ ap (λ k. get_or (last ∷ []) k 0) z)

-- the first is taken out, and the last one comes to its place
pub placed_front : (m : List Bool) (items new places after : List ℕ) (last : ℕ) → IsPlaced m (items ++ last ∷ []) places → 0 < length items →
    length new ≡ length items → length after ≡ length places → get_or new 0 0 ≡ last → ((k : ℕ) → k ≢ 0 → get_or new k 0 ≡ get_or items k 0) →
    get_or after last 0 ≡ 0 → ((w : ℕ) → w ≢ last → get_or after w 0 ≡ get_or places w 0) →
    IsPlaced (set m (get_or items 0 0) false) new after
placed_front m items new places after last p some len alen first others at_last elsewhere = record {
  items_in = λ k h. in_it k h (eqb k 0) refl;
  items_at = λ k h. at_it k h (eqb k 0) refl;
  small = λ k h. elim (one_of k h) [ inl e ↦ omega (arith, e, alen, p.small (length items) at_end, end) | inr e ↦ omega (arith, e.1, alen, p.small k (inside k h), old k h) ];
  numbers = λ k h. elim (one_of k h) [ inl e ↦ omega (arith, e, p.numbers (length items) at_end, end) | inr e ↦ omega (arith, e.1, p.numbers k (inside k h), old k h) ];
  member_at = λ v h. let f = left_in m top v top_in h in (in_at v f.0 f.1 (eqb v last) refl).0;
  member_is = λ v h. let f = left_in m top v top_in h in (in_at v f.0 f.1 (eqb v last) refl).1;
}
  where
    all : List ℕ
    all = items ++ last ∷ []

    top : ℕ
    top = get_or items 0 0

    longer : length (items ++ last ∷ []) ≡ length items + 1
    longer = length-append items (last ∷ [])

    at_end : length items < length (items ++ last ∷ [])
    at_end = omega (arith, longer)

    end : get_or (items ++ last ∷ []) (length items) 0 ≡ last
    end = get_or_push items last 0 (length items) refl

    inside : (k : ℕ) → k < length new → k < length (items ++ last ∷ [])
    inside k h = omega (arith, h, len, longer)

    old : (k : ℕ) → k < length new → get_or (items ++ last ∷ []) k 0 ≡ get_or items k 0
    old k h = get_or_append_left items (last ∷ []) 0 k (omega (arith, h, len))

    begin : get_or (items ++ last ∷ []) 0 0 ≡ get_or items 0 0
    begin = get_or_append_left items (last ∷ []) 0 0 some

    top_in : is_in m (get_or items 0 0) ≡ true
    top_in = ap (is_in m) (sym begin) ∙ p.items_in 0 (omega (arith, longer))

    top_at : get_or places (get_or items 0 0) 0 ≡ 0
    top_at = ap (λ w. get_or places w 0) (sym begin) ∙ p.items_at 0 (omega (arith, longer))

    last_at : get_or places last 0 ≡ length items
    last_at = ap (λ w. get_or places w 0) (sym end) ∙ p.items_at (length items) at_end

    item_at : (k : ℕ) → k < length new → get_or places (get_or items k 0) 0 ≡ k
    item_at k h = ap (λ w. get_or places w 0) (sym (old k h)) ∙ p.items_at k (inside k h)

    one_of : (k : ℕ) → k < length new → (get_or new k 0 ≡ last) ⊎ ((k ≢ 0) × (get_or new k 0 ≡ get_or items k 0))
    one_of k h = cases (eqb k 0) refl
      where
        cases : (b : Bool) → b ≡ eqb k 0 → (get_or new k 0 ≡ last) ⊎ ((k ≢ 0) × (get_or new k 0 ≡ get_or items k 0))
        cases true q = inl (ap (λ j. get_or new j 0) (eqb-true k 0 (sym q)) ∙ first)
        cases false q = let ne : k ≢ 0 = grind (arith, nat_tests) in inr (ne, others k ne)

    in_it : (k : ℕ) → k < length new → (b : Bool) → b ≡ eqb k 0 → is_in (set m (get_or items 0 0) false) (get_or new k 0) ≡ true
    in_it k h true q =
        let is : get_or new k 0 ≡ last = ap (λ j. get_or new j 0) (eqb-true k 0 (sym q)) ∙ first in
        ap (is_in (set m (get_or items 0 0) false)) is
        ∙ stays_in m (get_or items 0 0) last (λ e. omega (arith, last_at, top_at, ap (λ w. get_or places w 0) e, some)) (ap (is_in m) (sym end) ∙ p.items_in (length items) at_end)
    in_it k h false q =
        let ne : k ≢ 0 = grind (arith, nat_tests) in
        ap (is_in (set m (get_or items 0 0) false)) (others k ne)
        ∙ stays_in m (get_or items 0 0) (get_or items k 0) (λ e. omega (arith, item_at k h, top_at, ap (λ w. get_or places w 0) e, ne))
        (ap (is_in m) (sym (old k h)) ∙ p.items_in k (inside k h))

    at_it : (k : ℕ) → k < length new → (b : Bool) → b ≡ eqb k 0 → get_or after (get_or new k 0) 0 ≡ k
    at_it k h true q =
        let z : k ≡ 0 = eqb-true k 0 (sym q) in
        ap (λ w. get_or after w 0) (ap (λ j. get_or new j 0) z ∙ first) ∙ (at_last ∙ sym z)
    at_it k h false q =
        let ne : k ≢ 0 = grind (arith, nat_tests) in
        ap (λ w. get_or after w 0) (others k ne)
        ∙ (elsewhere (get_or items k 0) (λ e. omega (arith, item_at k h, last_at, ap (λ w. get_or places w 0) e, h, len)) ∙ item_at k h)

    in_at : (v : ℕ) → v ≢ get_or items 0 0 → is_in m v ≡ true → (b : Bool) → b ≡ eqb v last → (get_or after v 0 < length new) × (get_or new (get_or after v 0) 0 ≡ v)
    in_at v nt h true q =
        let e : v ≡ last = eqb-true v last (sym q) in
        let z : get_or after v 0 ≡ 0 = ap (λ w. get_or after w 0) e ∙ at_last in
        (omega (arith, z, len, some), ap (λ k. get_or new k 0) z ∙ (first ∙ sym e))
    in_at v nt h false q =
        let nl : v ≢ last = grind (arith, nat_tests) in
        let same = elsewhere v nl in
        let is = p.member_is v h in
        let lo : get_or places v 0 < length (items ++ last ∷ []) = p.member_at v h in
        let ne : get_or places v 0 ≢ length items = λ e. nl (sym is ∙ (ap (λ k. get_or (items ++ last ∷ []) k 0) e ∙ end)) in
        let nz : get_or places v 0 ≢ 0 = λ e. nt (sym is ∙ (ap (λ k. get_or (items ++ last ∷ []) k 0) e ∙ begin)) in
        let lt : get_or places v 0 < length new = omega (arith, lo, longer, len, ne) in (
          omega (arith, same, lt),
          ap (λ k. get_or new k 0) same ∙ (others (get_or places v 0) nz ∙ (sym (old (get_or places v 0) lt) ∙ is)),
        )

-- one more is put at the end
pub placed_push : (m : List Bool) (items places : List ℕ) (v : ℕ) → IsPlaced m items places → v < length m → v < length places → v < 2 ^ 32 → is_in m v ≡ false →
    IsPlaced (set m v true) (items ++ v ∷ []) (set places v (length items))
placed_push m items places v p vm vp vn out = record {
  items_in = λ k h. in_it k h (eqb k (length items)) refl;
  items_at = λ k h. at_it k h (eqb k (length items)) refl;
  small = λ k h. (sizes k h (eqb k (length items)) refl).0;
  numbers = λ k h. (sizes k h (eqb k (length items)) refl).1;
  member_at = λ w h. (at_w w h (eqb w v) refl).0;
  member_is = λ w h. (at_w w h (eqb w v) refl).1;
}
  where
    longer : length (items ++ v ∷ []) ≡ length items + 1
    longer = length-append items (v ∷ [])

    end : get_or (items ++ v ∷ []) (length items) 0 ≡ v
    end = get_or_push items v 0 (length items) refl

    old : (k : ℕ) → k < length items → get_or (items ++ v ∷ []) k 0 ≡ get_or items k 0
    old k h = get_or_append_left items (v ∷ []) 0 k h

    apart : (k : ℕ) → k < length items → get_or items k 0 ≢ v
    apart k h e = false≢true (sym out ∙ (ap (is_in m) (sym e) ∙ p.items_in k h))

    in_it : (k : ℕ) → k < length (items ++ v ∷ []) → (b : Bool) → b ≡ eqb k (length items) → is_in (set m v true) (get_or (items ++ v ∷ []) k 0) ≡ true
    in_it k h true q =
        ap (is_in (set m v true)) (ap (λ j. get_or (items ++ v ∷ []) j 0) (eqb-true k (length items) (sym q)) ∙ end) ∙ get_or-set_same m v true false vm
    in_it k h false q =
        let lt : k < length items = grind (arith, nat_tests, longer) in
        ap (is_in (set m v true)) (old k lt) ∙ (get_or-set_other m v (get_or items k 0) true false (apart k lt) ∙ p.items_in k lt)

    at_it : (k : ℕ) → k < length (items ++ v ∷ []) → (b : Bool) → b ≡ eqb k (length items) → get_or (set places v (length items)) (get_or (items ++ v ∷ []) k 0) 0 ≡ k
    at_it k h true q =
        let e : k ≡ length items = eqb-true k (length items) (sym q) in
        ap (λ w. get_or (set places v (length items)) w 0) (ap (λ j. get_or (items ++ v ∷ []) j 0) e ∙ end) ∙ (get_or-set_same places v (length items) 0 vp ∙ sym e)
    at_it k h false q =
        let lt : k < length items = grind (arith, nat_tests, longer) in
        ap (λ w. get_or (set places v (length items)) w 0) (old k lt)
        ∙ (get_or-set_other places v (get_or items k 0) (length items) 0 (apart k lt) ∙ p.items_at k lt)

    sizes : (k : ℕ) → k < length (items ++ v ∷ []) → (b : Bool) → b ≡ eqb k (length items) →
        (get_or (items ++ v ∷ []) k 0 < length (set places v (length items))) × (get_or (items ++ v ∷ []) k 0 < 2 ^ 32)
    sizes k h true q =
        let is : get_or (items ++ v ∷ []) k 0 ≡ v = ap (λ j. get_or (items ++ v ∷ []) j 0) (eqb-true k (length items) (sym q)) ∙ end in
        (omega (arith, is, vp, length-set places v (length items)), omega (arith, is, vn))
    sizes k h false q =
        let lt : k < length items = grind (arith, nat_tests, longer) in
        (omega (arith, old k lt, p.small k lt, length-set places v (length items)), omega (arith, old k lt, p.numbers k lt))

    at_w : (w : ℕ) → is_in (set m v true) w ≡ true → (b : Bool) → b ≡ eqb w v →
        (get_or (set places v (length items)) w 0 < length (items ++ v ∷ [])) × (get_or (items ++ v ∷ []) (get_or (set places v (length items)) w 0) 0 ≡ w)
    at_w w h true q =
        let e : w ≡ v = eqb-true w v (sym q) in
        let at : get_or (set places v (length items)) w 0 ≡ length items = ap (λ x. get_or (set places v (length items)) x 0) e ∙ get_or-set_same places v (length items) 0 vp in
        (omega (arith, at, longer), ap (λ k. get_or (items ++ v ∷ []) k 0) at ∙ (end ∙ sym e))
    at_w w h false q =
        let ne : w ≢ v = grind (arith, nat_tests) in
        let inm : is_in m w ≡ true = sym (get_or-set_other m v w true false ne) ∙ h in
        let at : get_or (set places v (length items)) w 0 ≡ get_or places w 0 = get_or-set_other places v w (length items) 0 ne in
        (omega (arith, at, longer, p.member_at w inm), ap (λ k. get_or (items ++ v ∷ []) k 0) at ∙ (old (get_or places w 0) (p.member_at w inm) ∙ p.member_is w inm))

-- what has the greater rank precedes
pub rank_precedes : (a : List ℕ) (v w : ℕ) → v < 2 ^ 32 → w < 2 ^ 32 → rank a w ≤ rank a v → Precedes a v w
rank_precedes a v w hv hw h = cases (get_or a w 0) (get_or a v 0) h
  where
    cases : (y x : ℕ) → y * 2 ^ 32 + (2 ^ 32 - w) ≤ x * 2 ^ 32 + (2 ^ 32 - v) → (y < x) ⊎ ((y ≡ x) × (v ≤ w))
    cases y x g = elim (less y x) [ inl l ↦ inl l | inr m ↦ inr (omega (arith, m, g), omega (arith, m, g)) ]
      where
        less : (p q : ℕ) → (p < q) ⊎ (q ≤ p)
        less p q = grind arith
