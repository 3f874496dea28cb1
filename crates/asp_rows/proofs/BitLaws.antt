-- Rows of bits stand in the order of their sets.
use Rattle.std.proofs.Common.{◌≡◌, ℕ, zero, suc, ◌+◌, ◌-◌, ◌*◌, ◌<◌, ◌≤◌, Bool, true, false, List, [], ◌∷◌, ◌++◌, map, take, drop, length, refl, sym, ap, ◌∙◌, inl, inr, arith, length-drop}
use Rattle.std.specs.List.{AllByRecursion}
use Rattle.std.specs.Ordering.{nat_cmp, ordering_then}
use Rattle.std.specs.declared.cmp.Ordering.{Ordering}
use Rattle.std.specs.declared.cmp.Ordering.TheVariants.{Less, Equal, Greater}
use Rattle.std.specs.Cmp.Lexicographic.{slice_cmp}
use Rattle.std.proofs.lemmas.Bool.Decides.{nat_tests}
use Rattle.std.proofs.lemmas.List.{take-append-drop, length-map, map-append}
use Rattle.asp_model.specs.Sets.{Atoms, IsAscending, has, set_cmp}
use Rattle.asp_rows.proofs.AmongLaws.{begins, behind, itself, lacks, none_among}
use Rattle.asp_rows.specs.Bits.{IsAmong, encode, with_bits, word_count, words}

-- ---- numbers and their bits

-- bits as they stand: where they differ first
bits_cmp : List Bool → List Bool → Ordering
bits_cmp [] bs = Equal
bits_cmp (b ∷ bs) [] = Equal
bits_cmp (true ∷ bs) (true ∷ cs) = bits_cmp bs cs
bits_cmp (true ∷ bs) (false ∷ cs) = Greater
bits_cmp (false ∷ bs) (true ∷ cs) = Less
bits_cmp (false ∷ bs) (false ∷ cs) = bits_cmp bs cs

with_bits-lt : (m n : ℕ) (bs cs : List Bool) → length bs ≡ length cs → m < n → with_bits m bs < with_bits n cs
with_bits-lt m n [] [] e lt = lt
with_bits-lt m n [] (c ∷ cs) e lt = absurd (omega arith)
with_bits-lt m n (b ∷ bs) [] e lt = absurd (omega arith)
with_bits-lt m n (true ∷ bs) (true ∷ cs) e lt = with_bits-lt (2 * m + 1) (2 * n + 1) bs cs (omega arith) (omega arith)
with_bits-lt m n (true ∷ bs) (false ∷ cs) e lt = with_bits-lt (2 * m + 1) (2 * n + 0) bs cs (omega arith) (omega arith)
with_bits-lt m n (false ∷ bs) (true ∷ cs) e lt = with_bits-lt (2 * m + 0) (2 * n + 1) bs cs (omega arith) (omega arith)
with_bits-lt m n (false ∷ bs) (false ∷ cs) e lt = with_bits-lt (2 * m + 0) (2 * n + 0) bs cs (omega arith) (omega arith)

less_is : (m n : ℕ) → m < n → nat_cmp m n ≡ Less
less_is m n lt = grind (arith, nat_tests)

greater_is : (m n : ℕ) → n < m → nat_cmp m n ≡ Greater
greater_is m n lt = grind (arith, nat_tests)

equal_is : (n : ℕ) → nat_cmp n n ≡ Equal
equal_is n = grind (arith, nat_tests)

values_cmp : (n : ℕ) (bs cs : List Bool) → length bs ≡ length cs → nat_cmp (with_bits n bs) (with_bits n cs) ≡ bits_cmp bs cs
unfolding bits_cmp
values_cmp n [] [] e = equal_is n
values_cmp n [] (c ∷ cs) e = absurd (omega arith)
values_cmp n (b ∷ bs) [] e = absurd (omega arith)
values_cmp n (true ∷ bs) (true ∷ cs) e = values_cmp (2 * n + 1) bs cs (omega arith)
values_cmp n (true ∷ bs) (false ∷ cs) e = greater_is _ _ (with_bits-lt (2 * n + 0) (2 * n + 1) cs bs (omega arith) (omega arith))
values_cmp n (false ∷ bs) (true ∷ cs) e = less_is _ _ (with_bits-lt (2 * n + 0) (2 * n + 1) bs cs (omega arith) (omega arith))
values_cmp n (false ∷ bs) (false ∷ cs) e = values_cmp (2 * n + 0) bs cs (omega arith)

bits-append : (xs ys cs ds : List Bool) → length xs ≡ length ys → bits_cmp (xs ++ cs) (ys ++ ds) ≡ ordering_then (bits_cmp xs ys) (bits_cmp cs ds)
unfolding bits_cmp
bits-append [] [] cs ds e = refl
bits-append [] (y ∷ ys) cs ds e = absurd (omega arith)
bits-append (x ∷ xs) [] cs ds e = absurd (omega arith)
bits-append (true ∷ xs) (true ∷ ys) cs ds e = bits-append xs ys cs ds (omega arith)
bits-append (true ∷ xs) (false ∷ ys) cs ds e = refl
bits-append (false ∷ xs) (true ∷ ys) cs ds e = refl
bits-append (false ∷ xs) (false ∷ ys) cs ds e = bits-append xs ys cs ds (omega arith)

-- ---- words

map_parts : (f : ℕ → Bool) (n : ℕ) (xs : List ℕ) → map f xs ≡ map f (take n xs) ++ map f (drop n xs)
map_parts f n xs = sym (ap (map f) (take-append-drop n xs)) ∙ map-append f (take n xs) (drop n xs)

same_len : (f g : ℕ → Bool) (xs : List ℕ) → length (map f xs) ≡ length (map g xs)
same_len f g xs = length-map xs f ∙ sym (length-map xs g)

words_cmp : (n : ℕ) (S T : Atoms) (atoms : List ℕ) → length atoms ≤ 64 * n → slice_cmp nat_cmp (words n S atoms) (words n T atoms) ≡ bits_cmp (map (has S) atoms) (map (has T) atoms)
unfolding bits_cmp
words_cmp zero S T [] le = refl
words_cmp zero S T (a ∷ atoms) le = absurd (omega arith)
words_cmp (suc n) S T atoms le =
    ap (λ (o : Ordering). ordering_then o (slice_cmp nat_cmp (words n S (drop 64 atoms)) (words n T (drop 64 atoms))))
    (values_cmp 0 (map (has S) (take 64 atoms)) (map (has T) (take 64 atoms)) (same_len (has S) (has T) (take 64 atoms)))
    ∙ ap (ordering_then (bits_cmp (map (has S) (take 64 atoms)) (map (has T) (take 64 atoms)))) (words_cmp n S T (drop 64 atoms) (omega (arith, le, length-drop 64 atoms)))
    ∙ sym (rw (map_parts (has S) 64 atoms, map_parts (has T) 64 atoms) (bits-append _ _ _ _ (same_len (has S) (has T) (take 64 atoms))))

enough : (atoms : List ℕ) → length atoms ≤ 64 * word_count atoms
enough atoms = omega arith

-- ---- sets among ascending atoms

later_is : (a : ℕ) (S T : Atoms) → AllByRecursion (λ b. a < b) T → set_cmp (a ∷ S) T ≡ Greater
later_is a S [] low = refl
later_is a S (b ∷ T) low = rw (greater_is b a low.0) refl

sooner_is : (a : ℕ) (S T : Atoms) → AllByRecursion (λ b. a < b) S → set_cmp S (a ∷ T) ≡ Less
sooner_is a [] T low = refl
sooner_is a (b ∷ S) T low = rw (less_is a b low.0) refl

-- the bits of a set whose first atom is the first of them
row_with : (a : ℕ) (S R : Atoms) (atoms : List ℕ) → S ≡ a ∷ R → AllByRecursion (λ b. a < b) atoms → map (has S) (a ∷ atoms) ≡ true ∷ map (has R) atoms
row_with a S R atoms e low =
    ap (λ (X : Atoms). map (has X) (a ∷ atoms)) e
    ∙ ap (λ (t : Bool). t ∷ map (has (a ∷ R)) atoms) (itself a R)
    ∙ ap (λ (t : List Bool). true ∷ t) (behind a R atoms low)

-- and of one whose atoms are all behind it
row_without : (a : ℕ) (S : Atoms) (atoms : List ℕ) → AllByRecursion (λ b. a < b) S → map (has S) (a ∷ atoms) ≡ false ∷ map (has S) atoms
row_without a S atoms low = ap (λ (t : Bool). t ∷ map (has S) atoms) (lacks a S low)

set_cmp-first : (a : ℕ) (R Q : Atoms) → set_cmp (a ∷ R) (a ∷ Q) ≡ set_cmp R Q
set_cmp-first a R Q = ap (λ (o : Ordering). ordering_then o (set_cmp R Q)) (equal_is a)

sets_cmp : (atoms : List ℕ) (S T : Atoms) → IsAscending atoms → IsAmong atoms S → IsAmong atoms T → bits_cmp (map (has S) atoms) (map (has T) atoms) ≡ set_cmp S T
unfolding bits_cmp
sets_cmp [] S T up s t = sym (ap (λ (X : Atoms). set_cmp X T) (none_among S s) ∙ ap (λ (X : Atoms). set_cmp [] X) (none_among T t))
sets_cmp (a ∷ atoms) S T up s t = elim (begins a atoms S up.0 s) [
  | inl x ↦ elim (begins a atoms T up.0 t) [
    | inl y ↦
        ap (λ (bs : List Bool). bits_cmp bs (map (has T) (a ∷ atoms))) (row_with a S x.0 atoms x.1 up.0)
        ∙ ap (λ (bs : List Bool). bits_cmp (true ∷ map (has x.0) atoms) bs) (row_with a T y.0 atoms y.1 up.0)
        ∙ sets_cmp atoms x.0 y.0 up.1 x.3 y.3
        ∙ sym (ap (λ (X : Atoms). set_cmp X T) x.1 ∙ ap (λ (X : Atoms). set_cmp (a ∷ x.0) X) y.1 ∙ set_cmp-first a x.0 y.0)
    | inr y ↦
        ap (λ (bs : List Bool). bits_cmp bs (map (has T) (a ∷ atoms))) (row_with a S x.0 atoms x.1 up.0)
        ∙ ap (λ (bs : List Bool). bits_cmp (true ∷ map (has x.0) atoms) bs) (row_without a T atoms y.0)
        ∙ sym (ap (λ (X : Atoms). set_cmp X T) x.1 ∙ later_is a x.0 T y.0)
  ]
  | inr x ↦ elim (begins a atoms T up.0 t) [
    | inl y ↦
        ap (λ (bs : List Bool). bits_cmp bs (map (has T) (a ∷ atoms))) (row_without a S atoms x.0)
        ∙ ap (λ (bs : List Bool). bits_cmp (false ∷ map (has S) atoms) bs) (row_with a T y.0 atoms y.1 up.0)
        ∙ sym (ap (λ (X : Atoms). set_cmp S X) y.1 ∙ sooner_is a S y.0 x.0)
    | inr y ↦
        ap (λ (bs : List Bool). bits_cmp bs (map (has T) (a ∷ atoms))) (row_without a S atoms x.0)
        ∙ ap (λ (bs : List Bool). bits_cmp (false ∷ map (has S) atoms) bs) (row_without a T atoms y.0)
        ∙ sets_cmp atoms S T up.1 x.1 y.1
  ]
]

-- the numbers of two sets among the same atoms stand in the order of the sets
pub rows_cmp : (atoms : List ℕ) (S T : Atoms) → IsAscending atoms → IsAmong atoms S → IsAmong atoms T → slice_cmp nat_cmp (encode atoms S) (encode atoms T) ≡ set_cmp S T
rows_cmp atoms S T up s t = words_cmp (word_count atoms) S T atoms (enough atoms) ∙ sets_cmp atoms S T up s t
