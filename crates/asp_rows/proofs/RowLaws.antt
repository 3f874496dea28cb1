-- Rows are made word by word, and sorted as their sets.
use Rattle.std.proofs.Common.{◌≡◌, ℕ, zero, suc, ◌+◌, ◌-◌, ◌*◌, ◌^◌, ◌<◌, ◌≤◌, Bool, true, false, nat_lt, List, [], ◌∷◌, ◌++◌, map, min, take, drop, length, get_or, refl, sym, ap, ◌∙◌, append_assoc, arith, length-drop, subst}
use Rattle.std.proofs.Math.Nat.{pow-succ', min_comm, mul_assoc, mul_comm}
use Rattle.std.proofs.Math.Pow.{pow_mono}
use Rattle.std.proofs.lemmas.Bool.Decides.{nat_tests}
use Rattle.std.specs.List.{AllByRecursion}
use Rattle.asp_model.specs.Sets.{Atoms, IsAscending, has}
use Rattle.asp_model.proofs.SetLaws.{has_at}
use Rattle.asp_rows.specs.Places.{IsBehind}
use Rattle.asp_rows.proofs.PlaceLaws.{all_below, onward, passed, stands}
use Rattle.std.proofs.lemmas.List.{drop-drop, drop_all, length-map, length-take, take_min, take_more}
use Rattle.asp_rows.proofs.DigitLaws.{value_low}
use Rattle.asp_rows.specs.Bits.{bit, encode, value, with_bits, word_count, words, IsAmong}
use Rattle.asp_rows.specs.declared.row.Row.{Row}
use Rattle.asp_rows.specs.Listed.{IsRowFor, IsRowOf}

-- ---- one word

with_bits-push : (n : ℕ) (bs : List Bool) (b : Bool) → with_bits n (bs ++ b ∷ []) ≡ 2 * with_bits n bs + bit b
with_bits-push n [] b = refl
with_bits-push n (c ∷ bs) b = with_bits-push (2 * n + bit c) bs b

map-push : (f : ℕ → Bool) (xs : List ℕ) (x : ℕ) → map f (xs ++ x ∷ []) ≡ map f xs ++ f x ∷ []
map-push f [] x = refl
map-push f (y ∷ ys) x = ap (λ (t : List Bool). f y ∷ t) (map-push f ys x)

pub word_more : (S : Atoms) (atoms : List ℕ) (i w n : ℕ) → i < length atoms → w ≡ value (map (has S) (take i atoms)) →
    n ≡ 2 * w + bit (has S (get_or atoms i 0)) → n ≡ value (map (has S) (take (i + 1) atoms))
word_more S atoms i w n lt is made =
    made ∙ ap (λ (k : ℕ). 2 * k + bit (has S (get_or atoms i 0))) is
    ∙ sym (ap (λ (t : List ℕ). value (map (has S) t)) (take_more atoms i 0 lt) ∙ ap value (map-push (has S) (take i atoms) (get_or atoms i 0))
    ∙ with_bits-push 0 (map (has S) (take i atoms)) (has S (get_or atoms i 0)))

-- the atoms up to there of which the set has none
pub zeros : (S : Atoms) (atoms : List ℕ) (from n : ℕ) → from + n ≤ length atoms →
    ((k : ℕ) → from ≤ k → k < from + n → has S (get_or atoms k 0) ≡ false) →
    value (map (has S) (take from atoms)) * 2 ^ n ≡ value (map (has S) (take (from + n) atoms))
zeros S atoms from zero le none =
    let one : value (map (has S) (take from atoms)) * 1 ≡ value (map (has S) (take from atoms)) = omega arith in
    let here : from ≡ from + 0 = omega arith in
    one ∙ ap (λ (k : ℕ). value (map (has S) (take k atoms))) here
zeros S atoms from (suc n) le none =
    let v : ℕ = value (map (has S) (take from atoms)) in
    let before = zeros S atoms from n (omega (arith, le)) (λ k low high. none k low (omega (arith, high))) in
    let twice : v * 2 ^ suc n ≡ 2 * (v * 2 ^ n) = ap (λ (k : ℕ). v * k) (pow-succ' 2 n) ∙ sym (mul_assoc v 2 (2 ^ n)) ∙ ap (λ (k : ℕ). k * 2 ^ n) (mul_comm v 2) ∙ mul_assoc 2 v (2 ^ n) in
    let nothing : 2 * (v * 2 ^ n) ≡ 2 * (v * 2 ^ n) + bit false = omega arith in
    let lacks : has S (get_or atoms (from + n) 0) ≡ false = none (from + n) (omega arith) (omega arith) in
    let next : from + n + 1 ≡ from + suc n = omega arith in
    word_more S atoms (from + n) (v * 2 ^ n) (v * 2 ^ suc n) (omega (arith, le)) before (twice ∙ nothing ∙ ap (λ (b : Bool). 2 * (v * 2 ^ n) + bit b) (sym lacks))
    ∙ ap (λ (k : ℕ). value (map (has S) (take k atoms))) next

pub word_zeros : (S : Atoms) (atoms : List ℕ) (from at w : ℕ) → from ≤ at → at ≤ length atoms → w ≡ value (map (has S) (take from atoms)) →
    ((k : ℕ) → from ≤ k → k < at → has S (get_or atoms k 0) ≡ false) → w * 2 ^ (at - from) ≡ value (map (has S) (take at atoms))
word_zeros S atoms from at w low high is none =
    let there : from + (at - from) ≡ at = omega (arith, low) in
    ap (λ (k : ℕ). k * 2 ^ (at - from)) is
    ∙ zeros S atoms from (at - from) (omega (arith, low, high)) (λ k le lt. none k le (omega (arith, lt, low)))
    ∙ ap (λ (k : ℕ). value (map (has S) (take k atoms))) there

-- the bits of at most 64 atoms make a word
pub word_room : (S : Atoms) (atoms : List ℕ) (n : ℕ) → length atoms ≤ 64 → value (map (has S) (take n atoms)) < 2 ^ 64
word_room S atoms n few =
    let low = value_low (map (has S) (take n atoms)) in
    let len : length (map (has S) (take n atoms)) ≤ 64 = omega (arith, length-map (take n atoms) (has S), length-take n atoms, few) in
    let power = pow_mono len in
    omega (arith, low, power)

-- up to where the set's next atom is looked for
pub found : (S atoms : Atoms) (from next at w : ℕ) → IsAscending S → IsAscending atoms → 0 < length atoms → next < length S → get_or S next 0 ≤ get_or atoms (length atoms - 1) 0
    → ((k : ℕ) → k < from → get_or atoms k 0 < get_or S next 0) → (from < length atoms → (j : ℕ) → j < next → get_or S j 0 < get_or atoms from 0)
    → IsBehind atoms at (get_or S next 0) → (at < length atoms → get_or S next 0 ≤ get_or atoms at 0) → w ≡ value (map (has S) (take from atoms))
    → (at < length atoms) × (from ≤ at) × (w * 2 ^ (at - from) ≡ value (map (has S) (take at atoms)))
found S atoms from next at w up rise some lt le low high behind here is =
    let within = stands atoms at (get_or S next 0) some behind le in
    let on = onward atoms from at (get_or S next 0) (here within) low in
    (within, on, word_zeros S atoms from at w on (omega (arith, within)) is (passed S atoms from next at up rise high (omega (arith, within)) (λ _. behind.1)))

-- and behind the last one
pub no_more : (S atoms : Atoms) (from next w : ℕ) → IsAscending S → IsAscending atoms → from ≤ length atoms → (from < length atoms → (j : ℕ) → j < next → get_or S j 0 < get_or atoms from 0)
    → (next < length S → get_or atoms (length atoms - 1) 0 < get_or S next 0) → w ≡ value (map (has S) (take from atoms)) →
    w * 2 ^ (length atoms - from) ≡ value (map (has S) (take (length atoms) atoms))
no_more S atoms from next w up rise within high last is =
    word_zeros S atoms from (length atoms) w within (omega arith) is (passed S atoms from next (length atoms) up rise high (omega arith) (λ lt. all_below atoms (get_or S next 0) rise (last lt)))

pub one_more : (S atoms : Atoms) (next at w : ℕ) → at < length atoms → next < length S → get_or S next 0 ≡ get_or atoms at 0 →
    w ≡ value (map (has S) (take at atoms)) → 2 * w + 1 ≡ value (map (has S) (take (at + 1) atoms))
one_more S atoms next at w within lt same is = word_more S atoms at w (2 * w + 1) within is (ap (λ (b : Bool). 2 * w + bit b) (sym (has_at S (get_or atoms at 0) next lt same)))

-- ---- a part of ascending atoms
each_take : (a n : ℕ) (S : Atoms) → AllByRecursion (λ b. a < b) S → AllByRecursion (λ b. a < b) (take n S)
each_take a zero S low = tt
each_take a (suc n) [] low = tt
each_take a (suc n) (b ∷ S) low = (low.0, each_take a n S low.1)

first_ascend : (n : ℕ) (S : Atoms) → IsAscending S → IsAscending (take n S)
first_ascend zero S up = tt
first_ascend (suc n) [] up = tt
first_ascend (suc n) (a ∷ S) up = (each_take a n S up.0, first_ascend n S up.1)

rest_ascend : (n : ℕ) (S : Atoms) → IsAscending S → IsAscending (drop n S)
rest_ascend zero S up = up
rest_ascend (suc n) [] up = tt
rest_ascend (suc n) (a ∷ S) up = rest_ascend n S up.1

pub part_ascends : (from n : ℕ) (S : Atoms) → IsAscending S → IsAscending (take n (drop from S))
part_ascends from n S up = first_ascend n (drop from S) (rest_ascend from S up)

-- ---- all words

pub encode_step : (atoms : List ℕ) (S : Atoms) → 0 < length atoms → encode atoms S ≡ value (map (has S) (take 64 atoms)) ∷ encode (drop 64 atoms) S
encode_step atoms S some =
    let count : word_count atoms ≡ suc (word_count (drop 64 atoms)) = omega (arith, some, length-drop 64 atoms) in
    ap (λ (n : ℕ). words n S atoms) count

-- ---- the loops

less_is : (m n : ℕ) → true ≡ nat_lt m n → m < n
less_is m n e = grind (arith, nat_tests)

not_less_is : (m n : ℕ) → false ≡ nat_lt m n → n ≤ m
not_less_is m n e = grind (arith, nat_tests)

-- the next atoms, at most 64
part_is : (atoms : List ℕ) (from n : ℕ) → n ≡ min (length atoms - from) 64 → take n (drop from atoms) ≡ take 64 (drop from atoms)
part_is atoms from n is =
    ap (λ (k : ℕ). take k (drop from atoms)) (is ∙ min_comm (length atoms - from) 64 ∙ ap (min 64) (sym (length-drop from atoms)))
    ∙ take_min 64 (drop from atoms)

-- and those behind them
rest_is : (atoms : List ℕ) (from n : ℕ) → n ≡ min (length atoms - from) 64 → drop (from + n) atoms ≡ drop 64 (drop from atoms)
rest_is atoms from n is = cases (nat_lt (length atoms - from) 64) refl
  where
    cases : (t : Bool) → t ≡ nat_lt (length atoms - from) 64 → drop (from + n) atoms ≡ drop 64 (drop from atoms)
    cases true q =
        let few = less_is (length atoms - from) 64 q in
        let len = length-drop from atoms in
        drop_all (from + n) atoms (omega (arith, is, few)) ∙ sym (drop_all 64 (drop from atoms) (omega (arith, len, few)))
    cases false q =
        let many = not_less_is (length atoms - from) 64 q in
        let all : n ≡ 64 = omega (arith, is, many) in
        ap (λ (k : ℕ). drop (from + k) atoms) all ∙ sym (drop-drop 64 from atoms)

pub words_more : (atoms : List ℕ) (S : Atoms) (from n w : ℕ) (done pushed : List ℕ) → from < length atoms → n ≡ min (length atoms - from) 64
    → w ≡ value (map (has S) (take (from + n - from) (drop from atoms))) → pushed ≡ done ++ w ∷ []
    → done ++ encode (drop from atoms) S ≡ encode atoms S → pushed ++ encode (drop (from + n) atoms) S ≡ encode atoms S
words_more atoms S from n w done pushed lt is one push before =
    let len = length-drop from atoms in
    let same : from + n - from ≡ n = omega arith in
    let word : w ≡ value (map (has S) (take 64 (drop from atoms))) =
    one ∙ ap (λ (k : ℕ). value (map (has S) (take k (drop from atoms)))) same
    ∙ ap (λ (t : List ℕ). value (map (has S) t)) (part_is atoms from n is) in
    ap (λ (t : List ℕ). t ++ encode (drop (from + n) atoms) S) push
    ∙ append_assoc done (w ∷ []) (encode (drop (from + n) atoms) S)
    ∙ ap (λ (t : List ℕ). done ++ w ∷ encode t S) (rest_is atoms from n is)
    ∙ ap (λ (k : ℕ). done ++ k ∷ encode (drop 64 (drop from atoms)) S) word
    ∙ ap (λ (t : List ℕ). done ++ t) (sym (encode_step (drop from atoms) S (omega (arith, len, lt))))
    ∙ before

-- ---- the row of a set
pub row-of : (atoms S : Atoms) (row : Row) → IsRowFor atoms S row → IsAmong atoms S → IsRowOf atoms row
row-of atoms S row is among = record { words = is.words ∙ ap (encode atoms) (sym is.set); among = subst (IsAmong atoms) (sym is.set) among }
