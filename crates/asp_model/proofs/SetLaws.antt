-- Sets of atoms: what `with_atom` and `set_of` have, and that equal members make equal sets.
use Rattle.std.proofs.Common.{◌≡◌, ℕ, zero, suc, ◌+◌, ◌<◌, ◌≤◌, Bool, true, false, ◌||◌, eqb, List, [], ◌∷◌, length, get_or, fold, refl, sym, ap, ◌∙◌, subst, arith, inl, inr, Result, Ok, Err}
use Rattle.std.specs.List.{AllByRecursion, insert as insert_at, dedup, dedup_from}
use Rattle.std.proofs.lemmas.Bool.{ne_eqb, eq-eqb, or_from, cases_order, false≢true}
use Rattle.std.proofs.lemmas.Bool.Decides.{nat_tests}
use Rattle.std.specs.List.Sorted.{IsBinarySearchResult, IsPermutation, IsSorted, IsStrictlyIncreasing}
use Rattle.std.specs.List.Retain.{IsFiltered, DiffersFromLast}
use Rattle.std.specs.Ordering.{nat_cmp}
use Rattle.std.proofs.lemmas.List.Sorted.{searched, list_any-IsPermutation}
use Rattle.std.proofs.lemmas.List.Filters.{dedup_is}
use Rattle.std.proofs.lemmas.Map.Keys.{IsStrictlyIncreasing-dedup}
use Rattle.asp_model.specs.Sets.{Atoms, IsAscending, has, with_atom, set_of}
use Rattle.asp_model.specs.Places.{IsPlace}

-- what stands below all atoms of a set isn't in it
pub has-below : (a c : ℕ) (S : Atoms) → AllByRecursion (λ b. a < b) S → c ≤ a → has S c ≡ false
has-below a c [] h le = refl
has-below a c (b ∷ S) h le = or_from _ _ (ne_eqb b c (λ e. omega arith)) (has-below a c S h.1 le)

pub below_trans : (a c : ℕ) (S : Atoms) → AllByRecursion (λ b. a < b) S → c ≤ a → AllByRecursion (λ b. c < b) S
below_trans a c [] h le = tt
below_trans a c (b ∷ S) h le = (omega arith, below_trans a c S h.1 le)

pub has-with_atom : (a c : ℕ) (S : Atoms) → has (with_atom a S) c ≡ (eqb a c || has S c)
has-with_atom a c [] = refl
has-with_atom a c (b ∷ S) = grind (arith, nat_tests, has-with_atom a c S)

pub below-with_atom : (a c : ℕ) (S : Atoms) → c < a → AllByRecursion (λ b. c < b) S → AllByRecursion (λ b. c < b) (with_atom a S)
below-with_atom a c [] lt h = (lt, tt)
below-with_atom a c (b ∷ S) lt h = grind (arith, nat_tests, below-with_atom a c S lt h.1)

pub IsAscending-with_atom : (a : ℕ) (S : Atoms) → IsAscending S → IsAscending (with_atom a S)
IsAscending-with_atom a [] h = (tt, tt)
IsAscending-with_atom a (b ∷ S) h = grind (arith, nat_tests, IsAscending-with_atom a S h.1, below-with_atom a b S, below_trans)

or_swap : (a b c : Bool) → ((a || b) || c) ≡ (b || (a || c))
or_swap true true c = refl
or_swap true false c = refl
or_swap false b c = refl

or-false : (a : Bool) → a ≡ (a || false)
or-false true = refl
or-false false = refl

pub has-fold : (S : Atoms) (xs : List ℕ) (c : ℕ) → has (fold (λ S a. with_atom a S) S xs) c ≡ (has S c || has xs c)
has-fold S [] c = or-false (has S c)
has-fold S (x ∷ xs) c =
    has-fold (with_atom x S) xs c ∙ ap (λ b. b || has xs c) (has-with_atom x c S) ∙ or_swap (eqb x c) (has S c) (has xs c)

pub has-set_of : (xs : List ℕ) (c : ℕ) → has (set_of xs) c ≡ has xs c
has-set_of xs c = has-fold [] xs c

IsAscending-fold : (S : Atoms) (xs : List ℕ) → IsAscending S → IsAscending (fold (λ S a. with_atom a S) S xs)
IsAscending-fold S [] h = h
IsAscending-fold S (x ∷ xs) h = IsAscending-fold (with_atom x S) xs (IsAscending-with_atom x S h)

pub IsAscending-set_of : (xs : List ℕ) → IsAscending (set_of xs)
IsAscending-set_of xs = IsAscending-fold [] xs tt

-- the members without the first
has_rest : (a c : ℕ) (S T : Atoms) → AllByRecursion (λ b. a < b) S → AllByRecursion (λ b. a < b) T → has (a ∷ S) c ≡ has (a ∷ T) c → has S c ≡ has T c
has_rest a c S T below_S below_T h = grind (arith, nat_tests, has-below a c S below_S, has-below a c T below_T)

first_absent : (a b : ℕ) (S T : Atoms) → AllByRecursion (λ c. b < c) T → a < b → has (a ∷ S) a ≡ has (b ∷ T) a → ⊥
first_absent a b S T below lt h = grind (arith, nat_tests, has-below b a T below)

-- two sets with the same members are equal
pub same_from_has : (S T : Atoms) → IsAscending S → IsAscending T → ((a : ℕ) → has S a ≡ has T a) → S ≡ T
same_from_has [] [] s t h = refl
same_from_has [] (b ∷ T) s t h = absurd (false≢true (h b ∙ ap (λ x. x || has T b) (eq-eqb b b refl)))
same_from_has (a ∷ S) [] s t h = absurd (false≢true (sym (h a) ∙ ap (λ x. x || has S a) (eq-eqb a a refl)))
same_from_has (a ∷ S) (b ∷ T) s t h = elim (cases_order a b) [
  | inl e ↦ grind (arith, nat_tests, same_from_has S T s.1 t.1 (λ c. has_rest a c S T s.0 (subst (λ x. AllByRecursion (λ d. x < d) T) (sym e) t.0) (h c ∙ ap (λ x. has (x ∷ T) c) (sym e))))
  | inr o ↦ elim o [ inl lt ↦ absurd (first_absent a b S T t.0 lt (h a)) | inr lt ↦ absurd (first_absent b a T S s.0 lt (sym (h b))) ]
]

-- ---- a sorted list and the places in it
pub get_or-below : (a : ℕ) (S : Atoms) (i : ℕ) → AllByRecursion (λ b. a < b) S → i < length S → a < get_or S i 0
get_or-below a [] i h lt = absurd (omega arith)
get_or-below a (b ∷ S) zero h lt = h.0
get_or-below a (b ∷ S) (suc i) h lt = get_or-below a S i h.1 (omega arith)

pub get_or-ascending : (S : Atoms) (i j : ℕ) → IsAscending S → i ≤ j → j < length S → get_or S i 0 ≤ get_or S j 0
get_or-ascending [] i j h le lt = absurd (omega arith)
get_or-ascending (b ∷ S) zero zero h le lt = omega arith
get_or-ascending (b ∷ S) zero (suc j) h le lt = omega (arith, get_or-below b S j h.0 (omega arith))
get_or-ascending (b ∷ S) (suc i) zero h le lt = absurd (omega arith)
get_or-ascending (b ∷ S) (suc i) (suc j) h le lt = get_or-ascending S i j h.1 (omega arith) (omega arith)

-- where the atom stands
pub has_at : (S : Atoms) (a i : ℕ) → i < length S → get_or S i 0 ≡ a → has S a ≡ true
has_at [] a i lt e = absurd (omega arith)
has_at (b ∷ S) a zero lt e = grind (arith, nat_tests)
has_at (b ∷ S) a (suc i) lt e = grind (arith, nat_tests, has_at S a i (omega arith) e)

-- where it would stand
pub absent_between : (S : Atoms) (a i : ℕ) → ((k : ℕ) → k < i → get_or S k 0 < a) → ((k : ℕ) → i ≤ k → k < length S → a < get_or S k 0) → has S a ≡ false
absent_between [] a i below above = refl
absent_between (b ∷ S) a zero below above =
    let first : a < b = above 0 (omega arith) (omega arith) in
    let rest : has S a ≡ false = absent_between S a zero (λ k lt. absurd (omega arith)) (λ k le lt. above (suc k) (omega arith) (omega arith)) in
    grind (arith, nat_tests)
absent_between (b ∷ S) a (suc i) below above =
    let first : b < a = below 0 (omega arith) in
    let rest : has S a ≡ false = absent_between S a i (λ k lt. below (suc k) (omega arith)) (λ k le lt. above (suc k) (omega arith) (omega arith)) in
    grind (arith, nat_tests)

pub with_atom_between : (S : Atoms) (a i : ℕ) → i ≤ length S → ((k : ℕ) → k < i → get_or S k 0 < a) → ((k : ℕ) → i ≤ k → k < length S → a < get_or S k 0) → with_atom a S ≡ insert_at S i a
with_atom_between [] a zero le below above = refl
with_atom_between [] a (suc i) le below above = absurd (omega arith)
with_atom_between (b ∷ S) a zero le below above =
    let first : a < b = above 0 (omega arith) (omega arith) in grind (arith, nat_tests)
with_atom_between (b ∷ S) a (suc i) le below above =
    let first : b < a = below 0 (omega arith) in
    let rest : with_atom a S ≡ insert_at S i a = with_atom_between S a i (omega arith) (λ k lt. below (suc k) (omega arith)) (λ k le lt. above (suc k) (omega arith) (omega arith)) in
    grind (arith, nat_tests)

-- an atom that is there
pub with_atom_present : (S : Atoms) (a : ℕ) → IsAscending S → has S a ≡ true → with_atom a S ≡ S
with_atom_present S a up h = same_from_has _ _ (IsAscending-with_atom a S up) up (λ c. has-with_atom a c S ∙ present c)
  where
    present : (c : ℕ) → (eqb a c || has S c) ≡ has S c
    present c = grind (arith, nat_tests, h)

-- what a binary search finds
pub place_found : (S : Atoms) (a : ℕ) (r : Result ℕ ℕ) → IsAscending S → IsBinarySearchResult (λ y. nat_cmp y a) S r → IsPlace S a r
place_found S a (Ok i) up found =
    let at = searched S a (Ok i) found (λ i j. get_or-ascending S i j up) in has_at S a i at.0 at.1
place_found S a (Err i) up found =
    let at = searched S a (Err i) found (λ i j. get_or-ascending S i j up) in
    record { within = at.0; absent = absent_between S a i at.1 at.2; placed = with_atom_between S a i at.0 at.1 at.2 }

-- ---- the set that a sort leaves
has-dedup_from : (k : ℕ) (xs : List ℕ) (c : ℕ) → has (dedup_from eqb k xs) c ≡ has (k ∷ xs) c
has-dedup_from k [] c = refl
has-dedup_from k (x ∷ xs) c = grind (arith, nat_tests, has-dedup_from k xs c, has-dedup_from x xs c)

has-dedup : (xs : List ℕ) (c : ℕ) → has (dedup eqb xs) c ≡ has xs c
has-dedup [] c = refl
has-dedup (x ∷ xs) c = has-dedup_from x xs c

IsAscending-from_increasing : (S : Atoms) → IsStrictlyIncreasing S → IsAscending S
IsAscending-from_increasing [] up = tt
IsAscending-from_increasing (a ∷ []) up = (tt, tt)
IsAscending-from_increasing (a ∷ b ∷ S) up =
    let lt : a < b = up 0 (omega arith) in
    let Above : ℕ → ℕ → Type 0 = λ k n. get_or (b ∷ S) k 0 < get_or (a ∷ b ∷ S) n 0 in
    let next : (k : ℕ) → suc k + 1 ≡ suc (k + 1) = λ k. omega arith in
    let later : IsStrictlyIncreasing (b ∷ S) = λ k h. subst (Above k) (next k) (up (suc k) (omega arith)) in
    let rest : IsAscending (b ∷ S) = IsAscending-from_increasing (b ∷ S) later in
    ((lt, below_trans b a S rest.0 (omega arith)), rest)

pub IsAscending-dedup : (xs ys : List ℕ) → IsSorted nat_cmp xs → IsFiltered (DiffersFromLast eqb) [] xs ys → IsAscending ys
IsAscending-dedup xs ys sorted kept =
    subst IsAscending (sym (dedup_is eqb xs ys kept)) (IsAscending-from_increasing (dedup eqb xs) (IsStrictlyIncreasing-dedup xs sorted))

-- what is left of a sorted list without its repeats
pub set_of-sorted : (xs ys zs : List ℕ) → IsPermutation xs ys → IsSorted nat_cmp ys → IsFiltered (DiffersFromLast eqb) [] ys zs → zs ≡ set_of xs
set_of-sorted xs ys zs permuted sorted kept =
    same_from_has zs (set_of xs) (IsAscending-dedup ys zs sorted kept) (IsAscending-set_of xs) (λ c.
    ap (λ S. has S c) (dedup_is eqb ys zs kept) ∙ has-dedup ys c ∙ sym (list_any-IsPermutation (λ b. eqb b c) xs ys permuted) ∙ sym (has-set_of xs c))
