-- Two ascending lists read side by side.
use Rattle.std.proofs.Common.{◌≡◌, ℕ, ◌+◌, ◌<◌, ◌≤◌, nat_lt, Bool, true, false, eqb, List, [], ◌∷◌, ◌++◌, map, filter, take, length, get_or, refl, sym, ap, ◌∙◌, subst, arith}
use Rattle.std.proofs.lemmas.Bool.Decides.{nat_tests}
use Rattle.std.proofs.lemmas.List.{map-append, take_more}
use Rattle.std.proofs.lemmas.List.Elements.{filter-append}
use Rattle.std.proofs.lemmas.Bool.{false≢true, eqb-true, eq-eqb}
use Rattle.asp_model.specs.Sets.{Atoms, IsAscending, has}
use Rattle.asp_model.proofs.SetLaws.{get_or-ascending, has_at, absent_between}
use Rattle.asp_found.specs.Merges.{IsReached}

pub below_more : (xs : List ℕ) (a i x : ℕ) → x ≡ get_or xs i 0 → x < a → ((k : ℕ) → k < i → get_or xs k 0 < a) → (k : ℕ) → k < i + 1 → get_or xs k 0 < a
below_more xs a i x is lt below k le = cases (eqb k i) refl
  where
    cases : (b : Bool) → b ≡ eqb k i → get_or xs k 0 < a
    cases true q = subst (λ (n : ℕ). get_or xs n 0 < a) (sym (eqb-true k i (sym q))) (omega (arith, is, lt))
    cases false q = below k (let other : k ≡ i → ⊥ = λ z. false≢true (q ∙ eq-eqb k i z) in omega (arith, other, le))

-- the test at the place that was reached
pub found_at : (S : Atoms) (a i : ℕ) → i < length S → eqb (get_or S i 0) a ≡ true → true ≡ has S a
found_at S a i lt e = sym (has_at S a i lt (eqb-true (get_or S i 0) a e))

pub absent_at : (S : Atoms) (a i : ℕ) → IsAscending S → IsReached S i a → i < length S → eqb (get_or S i 0) a ≡ false → false ≡ has S a
absent_at S a i up h lt e =
    let other : get_or S i 0 ≡ a → ⊥ = λ z. false≢true (sym e ∙ eq-eqb (get_or S i 0) a z) in
    let le = h.here lt in
    sym (absent_between S a i h.before (λ k le_k lt_k. let rises = get_or-ascending S i k up le_k lt_k in omega (arith, other, le, rises)))

pub absent_end : (S : Atoms) (a i : ℕ) → IsReached S i a → length S ≤ i → false ≡ has S a
absent_end S a i h end = sym (absent_between S a i h.before (λ k le_k lt_k. absurd (omega arith)))

-- whether an atom stands, by the test at the place that was reached
pub test_is : (S : Atoms) (a i : ℕ) (b : Bool) → IsAscending S → IsReached S i a → i < length S → b ≡ eqb (get_or S i 0) a → b ≡ has S a
test_is S a i b up h lt is = cases (eqb (get_or S i 0) a) refl
  where
    cases : (t : Bool) → t ≡ eqb (get_or S i 0) a → b ≡ has S a
    cases true q = is ∙ sym q ∙ found_at S a i lt (sym q)
    cases false q = is ∙ sym q ∙ absent_at S a i up h lt (sym q)

-- the next atom of an ascending list lets what is below this one stay below
pub next_below : (S atoms : Atoms) (i at : ℕ) → IsAscending S → i + 1 < length S → ((k : ℕ) → k < at → get_or atoms k 0 < get_or S i 0) → (k : ℕ) → k < at → get_or atoms k 0 < get_or S (i + 1) 0
next_below S atoms i at up lt below k le =
    let rises = get_or-ascending S i (i + 1) up (omega arith) lt in let here = below k le in omega (arith, rises, here)

lt_no : (i n : ℕ) → n ≤ i → nat_lt i n ≡ false
lt_no i n h = grind (arith, nat_tests)

pub end_is : (S : Atoms) (a i : ℕ) → IsReached S i a → length S ≤ i → nat_lt i (length S) ≡ has S a
end_is S a i h end = lt_no i (length S) end ∙ absent_end S a i h end

-- ---- the marks of a set, atom by atom
pub marks_more : (L S T A : Atoms) (i place : ℕ) (old new : List Bool) (b : Bool) → T ≡ S → A ≡ L → IsAscending A → i < length A →
    IsReached T place (get_or A i 0) → b ≡ has T (get_or A i 0) → new ≡ old ++ b ∷ [] → old ≡ false ∷ map (has S) (take i L) →
    (new ≡ false ∷ map (has S) (take (i + 1) L)) × ((place ≤ length S) × (i + 1 < length L → (k : ℕ) → k < place → get_or S k 0 < get_or L (i + 1) 0))
marks_more L S T A i place old new b same_set same_atoms up lt h is new_is before =
    let Next : Atoms → Atoms → Type 0 = λ X Y. (new ≡ false ∷ map (has X) (take (i + 1) Y)) × ((place ≤ length X) × (i + 1 < length Y → (k : ℕ) → k < place → get_or X k 0 < get_or Y (i + 1) 0)) in
    let old_is : old ≡ false ∷ map (has T) (take i A) = before ∙ ap (λ X. false ∷ map (has X) (take i L)) (sym same_set) ∙ ap (λ Y. false ∷ map (has T) (take i Y)) (sym same_atoms) in
    let first : new ≡ false ∷ map (has T) (take (i + 1) A) =
    new_is ∙ ap (λ x. old ++ x ∷ []) is ∙ ap (λ xs. xs ++ has T (get_or A i 0) ∷ []) old_is
    ∙ ap (λ ys. false ∷ ys) (sym (map-append (has T) (take i A) (get_or A i 0 ∷ [])))
    ∙ ap (λ ys. false ∷ map (has T) ys) (sym (take_more A i 0 lt)) in
    subst (λ (X : Atoms). Next X L) same_set (subst (λ (Y : Atoms). Next T Y) same_atoms (first, (h.within, λ more. next_below A T i place up more h.before)))

-- ---- what isn't marked, atom by atom
pub rest_more : (q : ℕ → Bool) (L S T A : Atoms) (i place : ℕ) (old new : List ℕ) → T ≡ S → A ≡ L → IsAscending T → i < length T →
    IsReached A place (get_or T i 0) → new ≡ old ++ filter q (get_or T i 0 ∷ []) → old ≡ filter q (take i S) → (new ≡ filter q (take (i + 1) S)) ×
    ((place ≤ length L) × (i + 1 < length S → (k : ℕ) → k < place → get_or L k 0 < get_or S (i + 1) 0))
rest_more q L S T A i place old new same_set same_atoms up lt h new_is before =
    let Next : Atoms → Atoms → Type 0 = λ X Y. (new ≡ filter q (take (i + 1) X)) × ((place ≤ length Y) × (i + 1 < length X → (k : ℕ) → k < place → get_or Y k 0 < get_or X (i + 1) 0)) in
    let old_is : old ≡ filter q (take i T) = before ∙ ap (λ X. filter q (take i X)) (sym same_set) in
    let first : new ≡ filter q (take (i + 1) T) =
    new_is ∙ ap (λ xs. xs ++ filter q (get_or T i 0 ∷ [])) old_is
    ∙ sym (filter-append q (take i T) (get_or T i 0 ∷ []))
    ∙ ap (filter q) (sym (take_more T i 0 lt)) in
    subst (λ (X : Atoms). Next X L) same_set (subst (λ (Y : Atoms). Next T Y) same_atoms (first, (h.within, λ more. next_below T A i place up more h.before)))
