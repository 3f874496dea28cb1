-- A field that was printed behind a blank is read, and what follows it is left.
use Rattle.std.proofs.Common.{◌≡◌, ℕ, ◌+◌, ◌^◌, ◌<◌, ◌≤◌, true, false, eqb, List, [], ◌∷◌, ◌++◌, length, refl, arith, Some, Ok, take_at, drop_at}
use Rattle.std.specs.Prelude.{ℤ, pos, nat_lt}
use Rattle.std.specs.Fmt.{signed_decimal}
use Rattle.std.specs.List.{AllByRecursion, position_or_len}
use Rattle.std.proofs.lemmas.Bool.{ne_eqb, or_from}
use Rattle.std.proofs.lemmas.Fmt.{decimal_digit}
use Rattle.std.proofs.lemmas.Bool.Decides.{nat_tests}
use Rattle.asp_text.specs.Fields.{is_blank, unblank, field_of, after_field}
use Rattle.asp_read.specs.Fields.{ends_field, natural_in, integer_in, natural_at, integer_at, count_at, most, most_counted}
use Rattle.asp_make.specs.Texts.{natural_field, integer_field}
use Rattle.asp_text.proofs.DigitLaws.{IsShort, spells_integer}

pub no_blank : (b : ℕ) → 32 < b → is_blank b ≡ false
no_blank b lt = or_from (eqb b 32) (eqb b 9) (ne_eqb b 32 (λ e. omega arith)) (ne_eqb b 9 (λ e. omega arith))

-- the first blank stands behind the word
blank_behind : (word rest : List ℕ) → AllByRecursion (λ b. 32 < b) word → ends_field rest ≡ true → position_or_len is_blank (word ++ rest) ≡ length word
blank_behind [] [] h e = refl
blank_behind [] (b ∷ bs) h e = rw e refl
blank_behind (b ∷ word) rest h e = rw (no_blank b h.0, blank_behind word rest h.1 e) (omega arith)

word_first : (word rest : List ℕ) → 0 < length word → AllByRecursion (λ b. 32 < b) word → unblank (32 ∷ word ++ rest) ≡ word ++ rest
word_first [] rest lt h = absurd (omega arith)
word_first (b ∷ word) rest lt h = rw (no_blank b h.0) refl

pub record Field (word rest line : List ℕ) : Type 0 where
  pub first : field_of line ≡ word
  pub rest_is : after_field line ≡ rest

field : (word rest : List ℕ) → 0 < length word → AllByRecursion (λ b. 32 < b) word → ends_field rest ≡ true → Field word rest (32 ∷ word ++ rest)
field word rest lt h e =
    let u = word_first word rest lt h in
    let p = blank_behind word rest h e in
    record { first = rw (u, p) (take_at word rest (length word) refl); rest_is = rw (u, p) (drop_at word rest (length word) refl) }

-- the first word of a line
word_alone : (word rest : List ℕ) → 0 < length word → AllByRecursion (λ b. 32 < b) word → unblank (word ++ rest) ≡ word ++ rest
word_alone [] rest lt h = absurd (omega arith)
word_alone (b ∷ word) rest lt h = rw (no_blank b h.0) refl

pub first_field : (word rest : List ℕ) → 0 < length word → AllByRecursion (λ b. 32 < b) word → ends_field rest ≡ true → Field word rest (word ++ rest)
first_field word rest lt h e =
    let u = word_alone word rest lt h in
    let p = blank_behind word rest h e in
    record { first = rw (u, p) (take_at word rest (length word) refl); rest_is = rw (u, p) (drop_at word rest (length word) refl) }

-- ---- numbers

-- a number that passes the test of its range
pub record IsInteger (low high z : ℤ) : Type 0 where
  pub short : IsShort z
  pub passes : (line : List ℕ) → integer_in low high line (Some z) ≡ Ok z

pub integer_back : (low high z : ℤ) (rest : List ℕ) → IsInteger low high z → ends_field rest ≡ true → integer_at low high (integer_field z ++ rest) ≡ Ok (z, rest)
integer_back low high z rest within e =
    let s = spells_integer z within.short in
    let f = field (signed_decimal z) rest s.some s.bytes e in
    rw (f.first, f.rest_is, s.value, within.passes (integer_field z ++ rest)) refl

natural_passes : (low high n : ℕ) (line : List ℕ) → low ≤ n → n ≤ high → natural_in low high line (Some (pos n)) ≡ Ok n
natural_passes low high n line l h = grind (arith, nat_tests)

pub natural_back : (low high n : ℕ) (rest : List ℕ) → low ≤ n → n ≤ high → high < 2 ^ 32 → ends_field rest ≡ true → natural_at low high (natural_field n ++ rest) ≡ Ok (n, rest)
natural_back low high n rest l h few e =
    let s = spells_integer (pos n) (omega arith) in
    let f = field (signed_decimal (pos n)) rest s.some s.bytes e in
    rw (f.first, f.rest_is, s.value, natural_passes low high n (natural_field n ++ rest) l h) refl

-- one digit
pub digit_back : (high d : ℕ) (rest : List ℕ) → d < 10 → d ≤ high → high < 2 ^ 32 → ends_field rest ≡ true → natural_at 0 high (32 ∷ (48 + d) ∷ rest) ≡ Ok (d, rest)
digit_back high d rest lt h few e = rw (decimal_digit d lt) at (natural_back 0 high d rest (omega arith) h few e)

pub count_back : (used n : ℕ) (rest : List ℕ) → used + n ≤ most_counted → ends_field rest ≡ true → count_at used (natural_field n ++ rest) ≡ Ok (n, rest)
unfolding count_at
count_back used n rest few e =
    let fits : nat_lt most_counted (used + n) ≡ false = grind (arith, nat_tests) in
    rw (natural_back 0 most n rest (omega arith) (omega arith) (omega arith) e, fits) refl
