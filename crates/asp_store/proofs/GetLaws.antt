-- Elements of lists by their places.
use Rattle.std.proofs.Common.{◌≡◌, ◌≢◌, ℕ, suc, zero, ◌+◌, ◌-◌, ◌<◌, ◌≤◌, Bool, true, false, eqb, List, [], ◌∷◌, ◌++◌, length, take, set, get_or, map, Some, Result, Ok, Err, inl, inr, ◌⊎◌, refl, sym, ap, ◌∙◌, arith}
use Rattle.std.specs.List.{slice_get, swap_remove, swap}
use Rattle.std.specs.Result.{OnErr}
use Rattle.std.proofs.lemmas.Bool.{eqb-true}
use Rattle.std.proofs.lemmas.Bool.Decides.{nat_tests}
use Rattle.std.proofs.lemmas.Grind.{common_steps}
use Rattle.std.proofs.lemmas.List.Edits.{swap_is}
use Rattle.std.proofs.lemmas.List.{length-set, length-append, length-map, map-set}
use Rattle.std.proofs.lemmas.Option.{slice_get-get_or, slice_get_within, none-some}

pub is_or_not : (i j : ℕ) → (i ≡ j) ⊎ (i ≢ j)
is_or_not i j = cases (eqb i j) refl
  where
    cases : (b : Bool) → b ≡ eqb i j → (i ≡ j) ⊎ (i ≢ j)
    cases true q = inl (eqb-true i j (sym q))
    cases false q = inr (let ne : i ≢ j = grind (arith, nat_tests) in ne)

pub get_set_same : {A : Type 0} (xs : List A) (i : ℕ) (v : A) → i < length xs → slice_get (set xs i v) i ≡ Some v
get_set_same [] i v h = absurd (omega arith)
get_set_same (x ∷ xs) zero v h = refl
get_set_same (x ∷ xs) (suc i) v h = get_set_same xs i v (omega arith)

pub get_set_other : {A : Type 0} (xs : List A) (i : ℕ) (v : A) (p : ℕ) → p ≢ i → slice_get (set xs i v) p ≡ slice_get xs p
get_set_other [] i v p ne = refl
get_set_other (x ∷ xs) zero v zero ne = absurd (ne refl)
get_set_other (x ∷ xs) zero v (suc p) ne = refl
get_set_other (x ∷ xs) (suc i) v zero ne = refl
get_set_other (x ∷ xs) (suc i) v (suc p) ne = get_set_other xs i v p (λ q. ne (ap suc q))

-- one of a changed list is the new one, or was there
pub get_set_some : {A : Type 0} (xs : List A) (i : ℕ) (v : A) (p : ℕ) (x : A) → slice_get (set xs i v) p ≡ Some x → (x ≡ v) ⊎ (slice_get xs p ≡ Some x)
get_set_some [] i v p x q = inr q
get_set_some (y ∷ xs) zero v zero x q = inl (sym (let e : v ≡ x = cc in e))
get_set_some (y ∷ xs) zero v (suc p) x q = inr q
get_set_some (y ∷ xs) (suc i) v zero x q = inr q
get_set_some (y ∷ xs) (suc i) v (suc p) x q = get_set_some xs i v p x q

pub get_take : {A : Type 0} (n : ℕ) (xs : List A) (p : ℕ) → p < n → slice_get (take n xs) p ≡ slice_get xs p
get_take zero xs p h = absurd (omega arith)
get_take (suc n) [] p h = refl
get_take (suc n) (x ∷ xs) zero h = refl
get_take (suc n) (x ∷ xs) (suc p) h = get_take n xs p (omega arith)

pub get_take_some : {A : Type 0} (n : ℕ) (xs : List A) (p : ℕ) (x : A) → slice_get (take n xs) p ≡ Some x → slice_get xs p ≡ Some x
get_take_some zero xs p x q = absurd (none-some x q)
get_take_some (suc n) [] p x q = q
get_take_some (suc n) (y ∷ xs) zero x q = q
get_take_some (suc n) (y ∷ xs) (suc p) x q = get_take_some n xs p x q

pub get_more : {A : Type 0} (xs ys : List A) (p : ℕ) (x : A) → slice_get xs p ≡ Some x → slice_get (xs ++ ys) p ≡ Some x
get_more [] ys p x q = absurd (none-some x q)
get_more (y ∷ xs) ys zero x q = q
get_more (y ∷ xs) ys (suc p) x q = get_more xs ys p x q

pub get_last : {A : Type 0} (xs : List A) (y : A) → slice_get (xs ++ y ∷ []) (length xs) ≡ Some y
get_last [] y = refl
get_last (x ∷ xs) y = get_last xs y

-- one of a longer list is the new one, or was there
pub get_more_some : {A : Type 0} (xs : List A) (y : A) (p : ℕ) (x : A) → slice_get (xs ++ y ∷ []) p ≡ Some x → (x ≡ y) ⊎ (slice_get xs p ≡ Some x)
get_more_some [] y zero x q = inl (sym (let e : y ≡ x = cc in e))
get_more_some [] y (suc p) x q = absurd (none-some x q)
get_more_some (z ∷ xs) y zero x q = inr q
get_more_some (z ∷ xs) y (suc p) x q = get_more_some xs y p x q

-- where one is taken away and the last one has its place, each other one is there still, and none comes to stand before both
pub get_swap : {A : Type 0} (xs : List A) (i : ℕ) (d : A) (p : ℕ) (x : A) → i < length xs → p ≢ i → slice_get xs p ≡ Some x →
    (q : ℕ) × (slice_get (swap_remove xs i d) q ≡ Some x) × ((m : ℕ) → m ≤ i → m ≤ p → m ≤ q)
get_swap xs i d p x h ne g = cases (is_or_not p (length xs - 1))
  where
    cases : (p ≡ length xs - 1) ⊎ (p ≢ length xs - 1) → (q : ℕ) × (slice_get (swap_remove xs i d) q ≡ Some x) × ((m : ℕ) → m ≤ i → m ≤ p → m ≤ q)
    cases (inl e) =
        let is : Some (get_or xs (length xs - 1) d) ≡ Some x = sym (slice_get-get_or xs (length xs - 1) d (omega arith)) ∙ (ap (slice_get xs) (sym e) ∙ g) in
        (i, get_take (length xs - 1) (set xs i (get_or xs (length xs - 1) d)) i (omega arith) ∙ (get_set_same xs i (get_or xs (length xs - 1) d) h ∙ is), λ m a b. a)
    cases (inr o) =
        let within : p < length xs = slice_get_within xs p x g in (
          p,
          get_take (length xs - 1) (set xs i (get_or xs (length xs - 1) d)) p (omega arith) ∙ (get_set_other xs i (get_or xs (length xs - 1) d) p ne ∙ g),
          λ m a b. b,
        )

pub get_swap_before : {A : Type 0} (xs : List A) (i : ℕ) (d : A) (p : ℕ) → i < length xs → p < i → slice_get (swap_remove xs i d) p ≡ slice_get xs p
get_swap_before xs i d p h lt =
    let ne : p ≢ i = λ e. absurd (omega (arith, e, lt)) in
    get_take (length xs - 1) (set xs i (get_or xs (length xs - 1) d)) p (omega arith) ∙ get_set_other xs i (get_or xs (length xs - 1) d) p ne

pub get_swap_some : {A : Type 0} (xs : List A) (i : ℕ) (d : A) (q : ℕ) (x : A) → i < length xs → slice_get (swap_remove xs i d) q ≡ Some x →
    (p : ℕ) × (slice_get xs p ≡ Some x)
get_swap_some xs i d q x h g =
    elim (get_set_some xs i (get_or xs (length xs - 1) d) q x (get_take_some (length xs - 1) (set xs i (get_or xs (length xs - 1) d)) q x g)) [
      | inl e ↦ (length xs - 1, slice_get-get_or xs (length xs - 1) d (omega arith) ∙ ap Some (sym e))
      | inr o ↦ (q, o)
    ]

-- a list of lists, where one of them is changed
pub at_set : {A : Type 0} (xs : List A) (c : ℕ) (v : A) (d : A) (k : ℕ) → c < length xs → k ≡ c → get_or (set xs c v) k d ≡ v
at_set [] c v d k h e = absurd (omega arith)
at_set (x ∷ xs) zero v d zero h e = refl
at_set (x ∷ xs) zero v d (suc k) h e = absurd (omega arith)
at_set (x ∷ xs) (suc c) v d zero h e = absurd (omega arith)
at_set (x ∷ xs) (suc c) v d (suc k) h e = at_set xs c v d k (omega arith) (omega arith)

pub at_set_other : {A : Type 0} (xs : List A) (c : ℕ) (v : A) (d : A) (k : ℕ) → k ≢ c → get_or (set xs c v) k d ≡ get_or xs k d
at_set_other [] c v d k ne = refl
at_set_other (x ∷ xs) zero v d zero ne = absurd (ne refl)
at_set_other (x ∷ xs) zero v d (suc k) ne = refl
at_set_other (x ∷ xs) (suc c) v d zero ne = refl
at_set_other (x ∷ xs) (suc c) v d (suc k) ne = at_set_other xs c v d k (λ q. ne (ap suc q))

-- the c-th of the lists that vectors have
pub map_at : {A B : Type 0} (f : A → List B) (xs : List A) (c : ℕ) (d : A) → c < length xs → get_or (map f xs) c [] ≡ f (get_or xs c d)
map_at f [] c d h = absurd (omega arith)
map_at f (x ∷ xs) zero d h = refl
map_at f (x ∷ xs) (suc c) d h = map_at f xs c d (omega arith)

-- what is seen of a changed list of vectors
pub map_set : {A B : Type 0} (f : A → List B) (xs : List A) (ys : List (List B)) (c k : ℕ) (v : A) (w : List B) → map f xs ≡ ys → c ≡ k → f v ≡ w → map f (set xs c v) ≡ set ys k w
map_set f xs ys c k v w e p q = map-set f xs c v ∙ (λ i. set (e i) (p i) (q i))

pub list_of : {A B : Type 0} (f : A → List B) (xs : List A) (ys : List (List B)) (c k : ℕ) (d : A) → map f xs ≡ ys → c ≡ k → k < length ys → d ≡ get_or xs c d → f d ≡ get_or ys k []
list_of {B = B} f xs ys c k d e p h q =
    ap f q ∙ (sym (map_at f xs c d (omega (arith, h, p, ap (length {A = List B}) e, length-map xs f))) ∙ (λ i. get_or (e i) (p i) []))

-- a list with an element is within
pub list_within : {B : Type 0} (ys : List (List B)) (k i : ℕ) → i < length (get_or ys k []) → k < length ys
list_within [] k i h = absurd (omega arith)
list_within (y ∷ ys) zero i h = omega arith
list_within (y ∷ ys) (suc k) i h = omega (arith, list_within ys k i h)

pub on_err : {T E P : Type 0} (r : Result T E) → P → OnErr r P
on_err (Ok x) p = tt
on_err (Err e) p = p

length-take_le : {A : Type 0} (k : ℕ) (xs : List A) → k ≤ length xs → length (take k xs) ≡ k
length-take_le k xs h = grind (arith, common_steps)

pub length-swap : {A : Type 0} (xs : List A) (i : ℕ) (d : A) → i < length xs → length (swap_remove xs i d) + 1 ≡ length xs
length-swap xs i d h =
    let len : length (set xs i (get_or xs (length xs - 1) d)) ≡ length xs = length-set xs i (get_or xs (length xs - 1) d) in
    omega (arith, length-take_le (length xs - 1) (set xs i (get_or xs (length xs - 1) d)) (omega (arith, len)))

-- where two change places, each one is there still
pub get_swapped : {A : Type 0} (xs : List A) (a b p : ℕ) (x : A) → a < length xs → b < length xs → slice_get xs p ≡ Some x →
    (q : ℕ) × (slice_get (swap xs a b) q ≡ Some x) × (((p ≡ a) × (q ≡ b)) ⊎ (((p ≡ b) × (q ≡ a)) ⊎ ((p ≢ a) × (p ≢ b) × (q ≡ p))))
get_swapped {A = A} xs a b p x ha hb g = cases (is_or_not p a) (is_or_not p b) (is_or_not a b)
  where
    is : set (set xs a (get_or xs b x)) b (get_or xs a x) ≡ swap xs a b
    is = swap_is xs a b x ha hb

    at : (k : ℕ) → p ≡ k → k < length xs → Some (get_or xs k x) ≡ Some x
    at k e h = sym (slice_get-get_or xs k x h) ∙ (ap (slice_get xs) (sym e) ∙ g)

    seen : (k : ℕ) → slice_get (set (set xs a (get_or xs b x)) b (get_or xs a x)) k ≡ Some x → slice_get (swap xs a b) k ≡ Some x
    seen k h = ap (λ (ys : List A). slice_get ys k) (sym is) ∙ h

    cases : (p ≡ a) ⊎ (p ≢ a) → (p ≡ b) ⊎ (p ≢ b) → (a ≡ b) ⊎ (a ≢ b) →
        (q : ℕ) × (slice_get (swap xs a b) q ≡ Some x) × (((p ≡ a) × (q ≡ b)) ⊎ (((p ≡ b) × (q ≡ a)) ⊎ ((p ≢ a) × (p ≢ b) × (q ≡ p))))
    cases (inl e) o s = (
      b,
      seen b (get_set_same (set xs a (get_or xs b x)) b (get_or xs a x) (omega (arith, hb, length-set xs a (get_or xs b x))) ∙ at a e ha),
      inl (e, refl),
    )
    cases (inr n) (inl e) (inl s) = absurd (omega (arith, e, s, n))
    cases (inr n) (inl e) (inr s) = (
      a,
      seen a (get_set_other (set xs a (get_or xs b x)) b (get_or xs a x) a s ∙ (get_set_same xs a (get_or xs b x) ha ∙ at b e hb)),
      inr (inl (e, refl)),
    )
    cases (inr n) (inr m) s = (
      p,
      seen p (get_set_other (set xs a (get_or xs b x)) b (get_or xs a x) p m ∙ (get_set_other xs a (get_or xs b x) p n ∙ g)),
      inr (inr (n, m, refl)),
    )

-- lists with one more are equal where the lists are
pub same_front : {A : Type 0} (xs ys : List A) (x y : A) → xs ++ x ∷ [] ≡ ys ++ y ∷ [] → xs ≡ ys
same_front [] [] x y e = refl
same_front {A = A} [] (b ∷ ys) x y e = absurd (omega (arith, ap (length {A = A}) e, length-append ys (y ∷ [])))
same_front {A = A} (a ∷ xs) [] x y e = absurd (omega (arith, ap (length {A = A}) e, length-append xs (x ∷ [])))
same_front (a ∷ xs) (b ∷ ys) x y e =
    let h : a ≡ b = cc in
    let t : xs ++ x ∷ [] ≡ ys ++ y ∷ [] = cc in
    λ i. h i ∷ same_front xs ys x y t i
