-- What the bits of a word say.
use Rattle.std.proofs.Common.{◌≡◌, ℕ, zero, suc, ◌+◌, ◌-◌, ◌*◌, ◌/◌, ◌%◌, ◌^◌, ◌<◌, eqb, Bool, true, false, List, [], ◌∷◌, ◌++◌, map, min, take, drop, length, get_or, refl, sym, ap, ◌∙◌, arith, length-drop}
use Rattle.std.proofs.Math.Nat.{add-mul, mul_assoc, mul_comm, pow-succ'}
use Rattle.std.proofs.Math.Seq.{split_at}
use Rattle.std.proofs.lemmas.Nat.{div-mul-add}
use Rattle.std.proofs.lemmas.List.{get_or-map, get_or-take, get_or-drop, length-map, length-take, drop-drop}
use Rattle.asp_model.specs.Sets.{Atoms, has}
use Rattle.asp_rows.specs.Bits.{bit, encode, value, with_bits, word_count, words, IsBitAt}
use Rattle.asp_rows.specs.declared.bits.Bit.{Bit}

-- ---- digits

with_bits-append : (n : ℕ) (xs ys : List Bool) → with_bits n (xs ++ ys) ≡ with_bits (with_bits n xs) ys
with_bits-append n [] ys = refl
with_bits-append n (x ∷ xs) ys = with_bits-append (2 * n + bit x) xs ys

-- so many digits more
moved : (n b p : ℕ) → (2 * n + b) * p ≡ n * (2 * p) + b * p
moved n b p = add-mul (2 * n) b p ∙ ap (λ (k : ℕ). k + b * p) (ap (λ (k : ℕ). k * p) (mul_comm 2 n) ∙ mul_assoc n 2 p)

with_bits-split : (n : ℕ) (bs : List Bool) → with_bits n bs ≡ n * 2 ^ length bs + value bs
with_bits-split n [] = omega arith
with_bits-split n (b ∷ bs) =
    let here = with_bits-split (2 * n + bit b) bs in
    let alone = with_bits-split (2 * 0 + bit b) bs in
    let first = moved n (bit b) (2 ^ length bs) in
    let second = moved 0 (bit b) (2 ^ length bs) in
    let power : n * 2 ^ length (b ∷ bs) ≡ n * (2 * 2 ^ length bs) = ap (λ (k : ℕ). n * k) (pow-succ' 2 (length bs)) in
    omega (arith, here, alone, first, second, power)

pub value_low : (bs : List Bool) → value bs < 2 ^ length bs
value_low [] = omega arith
value_low (true ∷ bs) =
    let split = with_bits-split 1 bs in
    let low = value_low bs in
    let power = pow-succ' 2 (length bs) in
    omega (arith, split, low, power)
value_low (false ∷ bs) =
    let low = value_low bs in
    let power = pow-succ' 2 (length bs) in
    omega (arith, low, power)

last : (n : ℕ) (b : Bool) → (2 * n + bit b) % 2 ≡ bit b
last n true = omega arith
last n false = omega arith

-- the digit before so many others
digit : (xs ys : List Bool) (b : Bool) → value (xs ++ b ∷ ys) / 2 ^ length ys % 2 ≡ bit b
digit xs ys b =
    ap (λ (k : ℕ). k / 2 ^ length ys % 2) (with_bits-append 0 xs (b ∷ ys) ∙ with_bits-split (2 * value xs + bit b) ys)
    ∙ ap (λ (k : ℕ). k % 2) (div-mul-add (2 * value xs + bit b) (2 ^ length ys) (value ys) (value_low ys))
    ∙ last (value xs) b

digit_at : (bs : List Bool) (i : ℕ) → i < length bs → value bs / 2 ^ (length bs - 1 - i) % 2 ≡ bit (get_or bs i false)
digit_at bs i lt =
    let len = length-drop (suc i) bs in
    let behind : length bs - 1 - i ≡ length (drop (suc i) bs) = omega (arith, len) in
    ap (λ (k : ℕ). value bs / 2 ^ k % 2) behind
    ∙ ap (λ (t : List Bool). value t / 2 ^ length (drop (suc i) bs) % 2) (split_at bs i false lt)
    ∙ digit (take i bs) (drop (suc i) bs) (get_or bs i false)

-- ---- words

word_at : (n w : ℕ) (S : Atoms) (atoms : List ℕ) → w < n → get_or (words n S atoms) w 0 ≡ value (map (has S) (take 64 (drop (64 * w) atoms)))
word_at zero w S atoms lt = absurd (omega arith)
word_at (suc n) zero S atoms lt = refl
word_at (suc n) (suc w) S atoms lt =
    let next : 64 + 64 * w ≡ 64 * suc w = omega arith in
    word_at n w S (drop 64 atoms) (omega arith)
    ∙ ap (λ (t : List ℕ). value (map (has S) (take 64 t))) (drop-drop (64 * w) 64 atoms ∙ ap (λ (k : ℕ). drop k atoms) next)

length_words : (n : ℕ) (S : Atoms) (atoms : List ℕ) → length (words n S atoms) ≡ n
length_words zero S atoms = refl
length_words (suc n) S atoms = let rest = length_words n S (drop 64 atoms) in omega (arith, rest)

pub bit_within : (atoms : List ℕ) (S : Atoms) (place : ℕ) (b : Bit) → IsBitAt (length atoms) place b → b.word < length (encode atoms S)
bit_within atoms S place b at =
    let len = length_words (word_count atoms) S atoms in
    let word = at.word in
    let within = at.within in
    omega (arith, len, word, within)

pub bit_is : (atoms : List ℕ) (S : Atoms) (place : ℕ) (b : Bit) → IsBitAt (length atoms) place b → get_or (encode atoms S) b.word 0 / 2 ^ b.behind % 2 ≡ bit (has S (get_or atoms place 0))
bit_is atoms S place b at =
    let w : ℕ = place / 64 in
    let i : ℕ = place % 64 in
    let part : List ℕ = take 64 (drop (64 * w) atoms) in
    let within = at.within in
    let len : length part ≡ min 64 (length atoms - 64 * w) = length-take 64 (drop (64 * w) atoms) ∙ ap (min 64) (length-drop (64 * w) atoms) in
    let bits = length-map part (has S) in
    let inside : i < length part = omega (arith, within, len) in
    let behind : b.behind ≡ length (map (has S) part) - 1 - i = at.behind ∙ ap (λ (k : ℕ). k - 1 - i) (sym (bits ∙ len)) in
    let here : 64 * w + i ≡ place = omega arith in
    ap (λ (k : ℕ). get_or (encode atoms S) k 0 / 2 ^ b.behind % 2) at.word
    ∙ ap (λ (k : ℕ). get_or (encode atoms S) w 0 / 2 ^ k % 2) behind
    ∙ ap (λ (k : ℕ). k / 2 ^ (length (map (has S) part) - 1 - i) % 2) (word_at (word_count atoms) w S atoms (omega (arith, within)))
    ∙ digit_at (map (has S) part) i (omega (arith, inside, bits))
    ∙ ap bit (get_or-map (has S) part i 0 false inside ∙ ap (has S) (get_or-take 64 (drop (64 * w) atoms) i 0 (omega arith) ∙ get_or-drop (64 * w) atoms i 0 ∙ ap (λ (k : ℕ). get_or atoms k 0) here))

pub one_is : (b : Bool) → eqb (bit b) 1 ≡ b
one_is true = refl
one_is false = refl
