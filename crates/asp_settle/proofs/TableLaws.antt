-- Tables of flags as sets.
use Rattle.std.proofs.Common.{◌≡◌, ℕ, zero, suc, ◌+◌, ◌-◌, ◌<◌, ◌≤◌, Bool, true, false, not, cond, ◌&&◌, ◌||◌, eqb, ltb, nat_lt, List, [], ◌∷◌, ◌++◌, length, get_or, set, take, filter, replicate, refl, sym, ap, ◌∙◌, arith, inl, inr}
use Rattle.std.specs.List.{AllByRecursion}
use Rattle.std.proofs.lemmas.Bool.{and_from, and_left, and_right, cases_eq, cases_lt, cond-false, cond-true, eq-eqb, false≢true, le-ltb, lt-ltb, ltb-false, ne_eqb, or_left}
use Rattle.std.proofs.lemmas.List.{append-nil, get_or-set_other, get_or-set_same, get_or_past, length-replicate, length-set, length-take, set_past, take_more}
use Rattle.asp_model.specs.Sets.{Atoms, IsAscending, has, set_of}
use Rattle.asp_model.proofs.SetLaws.{IsAscending-set_of, has-below, has-set_of, same_from_has}
use Rattle.asp_model.proofs.ConsequenceLaws.{ascends-filter, has-filter}
use Rattle.asp_settle.specs.Tables.{places_from, with_flags}

-- ---- places
low-places : (m n : ℕ) (flags : List Bool) → m < n → AllByRecursion (λ b. m < b) (places_from n flags)
low-places m n [] lt = tt
low-places m n (true ∷ flags) lt = (lt, low-places m (suc n) flags (omega arith))
low-places m n (false ∷ flags) lt = low-places m (suc n) flags (omega arith)

has-places : (n : ℕ) (flags : List Bool) (k : ℕ) → has (places_from n flags) (n + k) ≡ get_or flags k false
has-places n [] k = refl
has-places n (true ∷ flags) zero = or_left (eqb n (n + 0)) (has (places_from (suc n) flags) (n + 0)) (eq-eqb n (n + 0) (omega arith))
has-places n (false ∷ flags) zero = has-below n (n + 0) (places_from (suc n) flags) (low-places n (suc n) flags (omega arith)) (omega arith)
has-places n (true ∷ flags) (suc k) =
    let next : n + suc k ≡ suc n + k = omega arith in
    ap (λ b. b || has (places_from (suc n) flags) (n + suc k)) (ne_eqb n (n + suc k) (λ e. omega arith)) ∙ ap (has (places_from (suc n) flags)) next ∙ has-places (suc n) flags k
has-places n (false ∷ flags) (suc k) =
    let next : n + suc k ≡ suc n + k = omega arith in
    ap (has (places_from (suc n) flags)) next ∙ has-places (suc n) flags k

pub has-table : (flags : List Bool) (a : ℕ) → has (places_from 0 flags) a ≡ get_or flags a false
has-table flags a = let same : a ≡ 0 + a = omega arith in ap (has (places_from 0 flags)) same ∙ has-places 0 flags a

pub places-ascend : (n : ℕ) (flags : List Bool) → IsAscending (places_from n flags)
places-ascend n [] = tt
places-ascend n (true ∷ flags) = (low-places n (suc n) flags (omega arith), places-ascend (suc n) flags)
places-ascend n (false ∷ flags) = places-ascend (suc n) flags

places-push : (n : ℕ) (flags : List Bool) (b : Bool) → places_from n (flags ++ b ∷ []) ≡ places_from n flags ++ cond b ((n + length flags) ∷ []) []
places-push n [] true = ap (λ k. k ∷ []) (omega arith)
places-push n [] false = refl
places-push n (true ∷ flags) b = ap (λ xs. n ∷ xs) (places-push (suc n) flags b ∙ ap (λ k. places_from (suc n) flags ++ cond b (k ∷ []) []) (omega arith))
places-push n (false ∷ flags) b = places-push (suc n) flags b ∙ ap (λ k. places_from (suc n) flags ++ cond b (k ∷ []) []) (omega arith)

places_more : (flags : List Bool) (i : ℕ) → i < length flags → places_from 0 (take (i + 1) flags) ≡ places_from 0 (take i flags) ++ cond (get_or flags i false) (i ∷ []) []
places_more flags i lt =
    ap (places_from 0) (take_more flags i false lt)
    ∙ places-push 0 (take i flags) (get_or flags i false)
    ∙ ap (λ k. places_from 0 (take i flags) ++ cond (get_or flags i false) (k ∷ []) []) (omega (arith, length-take i flags))

pub places_pushed : (flags : List Bool) (i : ℕ) (xs : Atoms) → i < length flags → xs ≡ places_from 0 (take i flags) → get_or flags i false ≡ true → xs ++ i ∷ [] ≡ places_from 0 (take (i + 1) flags)
places_pushed flags i xs lt e up = ap (λ ys. ys ++ i ∷ []) e ∙ ap (λ b. places_from 0 (take i flags) ++ cond b (i ∷ []) []) (sym up) ∙ sym (places_more flags i lt)

pub places_passed : (flags : List Bool) (i : ℕ) (xs : Atoms) → i < length flags → xs ≡ places_from 0 (take i flags) → get_or flags i false ≡ false → xs ≡ places_from 0 (take (i + 1) flags)
places_passed flags i xs lt e down = e ∙ sym (append-nil (places_from 0 (take i flags))) ∙ ap (λ b. places_from 0 (take i flags) ++ cond b (i ∷ []) []) (sym down) ∙ sym (places_more flags i lt)

-- ---- flags
set_at : (flags : List Bool) (a : ℕ) (b : Bool) → a < length flags → get_or (set flags a b) a false ≡ cond (eqb a a && ltb a (length flags)) b (get_or flags a false)
set_at flags a b lt = get_or-set_same flags a b false lt
    ∙ sym (cond-true (eqb a a && ltb a (length flags)) b (get_or flags a false)
    (and_from (eqb a a) (ltb a (length flags)) (eq-eqb a a refl) (lt-ltb a (length flags) lt)))

set_none : (flags : List Bool) (a : ℕ) (b : Bool) → length flags ≤ a → get_or (set flags a b) a false ≡ cond (eqb a a && ltb a (length flags)) b (get_or flags a false)
set_none flags a b le = ap (λ f. get_or f a false) (set_past flags a b le)
    ∙ sym (cond-false (eqb a a && ltb a (length flags)) b (get_or flags a false)
    (and_right (eqb a a) (ltb a (length flags)) (le-ltb a (length flags) le)))

get_or-set : (flags : List Bool) (x a : ℕ) (b : Bool) → get_or (set flags x b) a false ≡ cond (eqb x a && ltb a (length flags)) b (get_or flags a false)
get_or-set flags x a b = elim (cases_eq a x) [
  | inl same ↦ here same
  | inr other ↦ get_or-set_other flags x a b false other
      ∙ sym (cond-false (eqb x a && ltb a (length flags)) b (get_or flags a false)
      (and_left (eqb x a) (ltb a (length flags)) (ne_eqb x a (λ e. other (sym e)))))
]
  where
    here : a ≡ x → get_or (set flags x b) a false ≡ cond (eqb x a && ltb a (length flags)) b (get_or flags a false)
    here e = ap (λ y. get_or (set flags y b) a false) (sym e)
        ∙ elim (cases_lt a (length flags)) [ inl lt ↦ set_at flags a b lt | inr le ↦ set_none flags a b le ]
        ∙ ap (λ y. cond (eqb y a && ltb a (length flags)) b (get_or flags a false)) e

-- ---- flags set one after the other
pub length-flags : (up : Bool) (flags : List Bool) (xs : List ℕ) → length (with_flags up flags xs) ≡ length flags
length-flags up flags [] = refl
length-flags up flags (x ∷ xs) = length-flags up (set flags x up) xs ∙ length-set flags x up

raised_one : (e l r g : Bool) → ((r && l) || cond (e && l) true g) ≡ (((e || r) && l) || g)
raised_one true true r g = one r
  where
    one : (b : Bool) → ((b && true) || true) ≡ true
    one true = refl
    one false = refl
raised_one true false r g = ap (λ b. b || g) (both r)
  where
    both : (b : Bool) → (b && false) ≡ false
    both true = refl
    both false = refl
raised_one false l r g = refl

get_or-raised : (flags : List Bool) (xs : List ℕ) (a : ℕ) → get_or (with_flags true flags xs) a false ≡ ((has xs a && ltb a (length flags)) || get_or flags a false)
get_or-raised flags [] a = refl
get_or-raised flags (x ∷ xs) a =
    get_or-raised (set flags x true) xs a
    ∙ ap (λ n. (has xs a && ltb a n) || get_or (set flags x true) a false) (length-set flags x true)
    ∙ ap (λ b. (has xs a && ltb a (length flags)) || b) (get_or-set flags x a true)
    ∙ raised_one (eqb x a) (ltb a (length flags)) (has xs a) (get_or flags a false)

lowered_one : (e l r g : Bool) → (l ≡ false → g ≡ false) → (not r && cond (e && l) false g) ≡ (not (e || r) && g)
lowered_one true true true g h = refl
lowered_one true true false g h = refl
lowered_one true false r g h = ap (λ b. not r && b) (h refl) ∙ none (not r)
  where
    none : (b : Bool) → (b && false) ≡ false
    none true = refl
    none false = refl
lowered_one false l r g h = refl

beyond : (flags : List Bool) (a : ℕ) → ltb a (length flags) ≡ false → get_or flags a false ≡ false
beyond flags a e = get_or_past flags a false (ltb-false a (length flags) e)

get_or-lowered : (flags : List Bool) (xs : List ℕ) (a : ℕ) → get_or (with_flags false flags xs) a false ≡ (not (has xs a) && get_or flags a false)
get_or-lowered flags [] a = refl
get_or-lowered flags (x ∷ xs) a =
    get_or-lowered (set flags x false) xs a
    ∙ ap (λ b. not (has xs a) && b) (get_or-set flags x a false)
    ∙ lowered_one (eqb x a) (ltb a (length flags)) (has xs a) (get_or flags a false) (beyond flags a)

none_up : (n a : ℕ) → get_or (replicate n false) a false ≡ false
none_up zero a = refl
none_up (suc n) zero = refl
none_up (suc n) (suc a) = none_up n a

-- the flags of xs that a table has, and ys has not
pub table-is : (n r : ℕ) (xs ys : List ℕ) → ((a : ℕ) → has xs a ≡ true → nat_lt a n ≡ nat_lt a r) →
    places_from 0 (with_flags false (with_flags true (replicate n false) xs) ys) ≡ filter (λ a. nat_lt a r && not (has ys a)) (set_of xs)
table-is n r xs ys within =
    same_from_has (places_from 0 (with_flags false (with_flags true (replicate n false) xs) ys)) (filter (λ a. nat_lt a r && not (has ys a)) (set_of xs))
    (places-ascend 0 (with_flags false (with_flags true (replicate n false) xs) ys)) (ascends-filter (λ a. nat_lt a r && not (has ys a)) (set_of xs) (IsAscending-set_of xs)) (λ a.
    has-table (with_flags false (with_flags true (replicate n false) xs) ys) a
    ∙ get_or-lowered (with_flags true (replicate n false) xs) ys a
    ∙ ap (λ b. not (has ys a) && b) (get_or-raised (replicate n false) xs a
    ∙ ap (λ k. (has xs a && ltb a k) || get_or (replicate n false) a false) (length-replicate n false)
    ∙ ap (λ b. (has xs a && ltb a n) || b) (none_up n a))
    ∙ joined (has xs a) (nat_lt a n) (nat_lt a r) (has ys a) (within a)
    ∙ sym (has-filter (λ b. nat_lt b r && not (has ys b)) (set_of xs) a ∙ ap (λ b. (nat_lt a r && not (has ys a)) && b) (has-set_of xs a)))
  where
    joined : (x l m y : Bool) → (x ≡ true → l ≡ m) → (not y && ((x && l) || false)) ≡ ((m && not y) && x)
    joined true true true true h = refl
    joined true true true false h = refl
    joined true false false true h = refl
    joined true false false false h = refl
    joined true true false y h = absurd (false≢true (sym (h refl)))
    joined true false true y h = absurd (false≢true (h refl))
    joined false l true true h = refl
    joined false l true false h = refl
    joined false l false true h = refl
    joined false l false false h = refl
