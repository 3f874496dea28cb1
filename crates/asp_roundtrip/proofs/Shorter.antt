-- The canonical form of a field is no longer than the field.
use Rattle.std.proofs.Common.{◌≡◌, ℕ, zero, suc, ◌+◌, ◌-◌, ◌*◌, ◌^◌, ◌<◌, ◌≤◌, Bool, true, false, cond, not, eqb, leb, List, [], ◌∷◌, ◌++◌, length, flat_map, take, drop, refl, sym, ap, ◌∙◌, subst, arith, Option, Some, None, Ok, Err, length-append, length-drop, take-append-drop, pow-suc, mul-le-mul_right}
use Rattle.std.specs.Prelude.{ℤ, pos, negsuc, neg_ℤ, if◌then◌else◌, nat_lt, ◌||◌, int_lt, decimal}
use Rattle.std.specs.Fmt.{signed_decimal}
use Rattle.std.specs.Char.{is_ascii_digit}
use Rattle.std.specs.List.{position_or_len}
use Rattle.std.specs.Option.{option_map}
use Rattle.std.proofs.lemmas.Bool.{and_parts, leb-true}
use Rattle.std.proofs.lemmas.Bool.Decides.{nat_tests}
use Rattle.std.proofs.lemmas.Fmt.{length-decimal-le, decimal_nonempty, decimal_digit}
use Rattle.asp_text.specs.Fields.{is_blank, is_filled, unblank, field_of, after_field, digits_after, natural_of, integer_of}
use Rattle.asp_model.specs.Sets.{Atoms, with_atom}
use Rattle.asp_model.specs.Holding.{atom_of}
use Rattle.asp_read.specs.Fields.{Reads, ends_field, natural_in, integer_in, natural_at, integer_at, count_at, room_for, atom_at, any_literal_at, literal_at, weighted_at, weighted_atom, many_at, literals_at, weights_at, is_zero, most, most_counted}
use Rattle.asp_make.specs.Texts.{natural_field, integer_field, weighted_fields, counted_fields}
use Rattle.asp_read.specs.declared.error.FaultAt.{FaultAt}
use Rattle.asp_roundtrip.specs.Readable.{IsBetween}
use Rattle.asp_text.proofs.DigitLaws.{IsShort, digits_none, spells_integer}
use Rattle.asp_roundtrip.proofs.Written.{short_from}
use Rattle.asp_roundtrip.proofs.Given.{Given, given, given_none, given_then, given_if, given_after, given_itself, integer_in_given}

-- ---- digits

pub digits_below : (m : ℕ) (ds : List ℕ) (n : ℕ) → digits_after m ds ≡ Some n → n < (m + 1) * 10 ^ length ds
digits_below m [] n e = let same : m ≡ n = cc in omega (arith, same)
digits_below m (b ∷ ds) n e =
    let digit : is_ascii_digit b ≡ true = digits_none (is_ascii_digit b) (digits_after (m * 10 + (b - 48)) ds) n e in
    let small : b - 48 ≤ 9 = grind (arith, nat_tests, digit) in
    let rest = digits_below (m * 10 + (b - 48)) ds n (rw digit at e) in
    let more : (m * 10 + (b - 48) + 1) * 10 ^ length ds ≤ ((m + 1) * 10) * 10 ^ length ds = mul-le-mul_right (10 ^ length ds) (omega arith) in
    rw (pow-suc 10 (length ds)) (omega (arith, rest, more))

decimal_shorter : (ds : List ℕ) (n : ℕ) → n < 2 ^ 64 → natural_of ds ≡ Some n → length (decimal n) ≤ length ds
decimal_shorter [] n few e = absurd cc
decimal_shorter (b ∷ ds) n few e = length-decimal-le (suc (length ds)) n (omega arith) (omega (arith, digits_below 0 (b ∷ ds) n e)) few

negative_shorter : (n : ℕ) (ds : List ℕ) → IsShort (neg_ℤ (pos n)) → natural_of ds ≡ Some n → length (signed_decimal (neg_ℤ (pos n))) ≤ suc (length ds)
negative_shorter zero ds short e = rw (decimal_digit 0 (omega arith)) (omega arith)
negative_shorter (suc n) ds short e = omega (arith, decimal_shorter ds (suc n) (omega (arith, short)) e)

behind_sign : (ds : List ℕ) (z : ℤ) (o : Option ℕ) → natural_of ds ≡ o → option_map (λ n. neg_ℤ (pos n)) o ≡ Some z → IsShort z → length (signed_decimal z) ≤ suc (length ds)
behind_sign ds z None e is short = absurd cc
behind_sign ds z (Some n) e is short =
    let same : neg_ℤ (pos n) ≡ z = cc in
    subst (λ y. IsShort y → length (signed_decimal y) ≤ suc (length ds)) same (λ few. negative_shorter n ds few e) short

without_sign : (ds : List ℕ) (z : ℤ) (o : Option ℕ) → natural_of ds ≡ o → option_map pos o ≡ Some z → IsShort z → length (signed_decimal z) ≤ length ds
without_sign ds z None e is short = absurd cc
without_sign ds z (Some n) e is short =
    let same : pos n ≡ z = cc in
    subst (λ y. IsShort y → length (signed_decimal y) ≤ length ds) same (λ few. decimal_shorter ds n (omega (arith, few)) e) short

integer_shorter : (word : List ℕ) (z : ℤ) → integer_of word ≡ Some z → IsShort z → length (signed_decimal z) ≤ length word
integer_shorter [] z e short = absurd cc
integer_shorter (b ∷ bs) z e short = (elim (eqb b 45) as
    (λ v. (if v then option_map (λ n. neg_ℤ (pos n)) (natural_of bs) else option_map pos (natural_of (b ∷ bs))) ≡ Some z →
    length (signed_decimal z) ≤ suc (length bs)) [
      | true ↦ λ h. behind_sign bs z (natural_of bs) refl h short
      | false ↦ λ h. without_sign (b ∷ bs) z (natural_of (b ∷ bs)) refl h short
    ]) e

-- ---- fields

ends_at : (bytes : List ℕ) → ends_field (drop (position_or_len is_blank bytes) bytes) ≡ true
ends_at [] = refl
ends_at (b ∷ bytes) = (elim (is_blank b) as (λ v. is_blank b ≡ v → ends_field (drop (cond (not v) (1 + position_or_len is_blank bytes) 0) (b ∷ bytes)) ≡ true) [
  | true ↦ λ e. e
  | false ↦ λ e. let k : 1 + position_or_len is_blank bytes ≡ suc (position_or_len is_blank bytes) = omega arith in rw k (ends_at bytes)
]) refl

-- what was printed of a value fits where it was read, and what follows begins a field or ends the line
pub record Shorter (line text after : List ℕ) : Type 0 where
  pub fits : length text + length after ≤ length line
  pub next : ends_field after ≡ true

parts_of : (line : List ℕ) → length (field_of line) + length (after_field line) ≡ length (unblank line)
parts_of line =
    let u = unblank line in
    let k = position_or_len is_blank u in
    sym (length-append (take k u) (drop k u)) ∙ ap length (take-append-drop k u)

unblank_shorter : (line : List ℕ) → ends_field line ≡ true → 0 < length (unblank line) → 1 + length (unblank line) ≤ length line
unblank_shorter [] e some = omega arith
unblank_shorter (b ∷ bs) e some =
    let blank : position_or_len is_filled (b ∷ bs) ≡ 1 + position_or_len is_filled bs = rw e refl in
    omega (arith, blank, length-drop (position_or_len is_filled (b ∷ bs)) (b ∷ bs))

-- the first field of a line, and a later one
pub first_shorter : (line text : List ℕ) → length text ≤ length (field_of line) → Shorter line text (after_field line)
first_shorter line text le = record { fits = omega (arith, parts_of line, length-drop (position_or_len is_filled line) line); next = ends_at (unblank line) }

pub later_shorter : (line word : List ℕ) → ends_field line ≡ true → 0 < length word → length word ≤ length (field_of line) → Shorter line (32 ∷ word) (after_field line)
later_shorter line word e some le = record { fits = omega (arith, parts_of line, unblank_shorter line e (omega (arith, parts_of line))); next = ends_at (unblank line) }

-- ---- numbers

natural_in_is : (low high : ℕ) (line : List ℕ) (o : Option ℤ) → Given (natural_in low high line o) (λ n. (o ≡ Some (pos n)) × (n ≤ high))
natural_in_is low high line None = given_none _ _
natural_in_is low high line (Some (pos n)) = given_if _ _ _ _ (λ t. given n _ (refl, leb-true n high (and_parts (leb low n) (leb n high) t).1)) (λ f. given_none _ _)
natural_in_is low high line (Some (negsuc n)) = given_none _ _

pub natural_shorter : (low high : ℕ) (line : List ℕ) → high < 2 ^ 32 → ends_field line ≡ true → Given (natural_at low high line) (λ x. Shorter line (natural_field x.0) x.1)
natural_shorter low high line few e = given_then _ _ _ _ (natural_in_is low high line (integer_of (field_of line))) (λ n is.
    let short = integer_shorter (field_of line) (pos n) is.0 (omega (arith, is.1)) in
    let shorter = later_shorter line (decimal n) e (decimal_nonempty n (omega (arith, is.1))) short in
    given _ _ shorter)

abbrev some : ℤ → Option ℤ
some z = Some z

unless : (b : Bool) (f : FaultAt) (z y : ℤ) → (if b then Err f else Ok z) ≡ Ok y → z ≡ y
unless true f z y e = absurd cc
unless false f z y e = cc

passed : (low high : ℤ) (line : List ℕ) (z y : ℤ) → integer_in low high line (Some z) ≡ Ok y → z ≡ y
passed low high line z y e = unless (int_lt z low || int_lt high z) _ z y e

integer_in_is : (low high : ℤ) (line : List ℕ) (o : Option ℤ) → Given (integer_in low high line o) (λ z. (o ≡ Some z) × IsBetween low high z)
integer_in_is low high line None = given_none _ _
integer_in_is low high line (Some z) = record { each = λ y e. (ap some (passed low high line z y e), (integer_in_given low high line (Some z)).each y e) }

pub integer_shorter_at : (low : ℤ) (line : List ℕ) → IsShort low → ends_field line ≡ true → Given (integer_at low (pos most) line) (λ x. Shorter line (integer_field x.0) x.1)
integer_shorter_at low line few e = given_then _ _ _ _ (integer_in_is low (pos most) line (integer_of (field_of line))) (λ z is.
    let short = short_from low z few is.1 in
    let shorter = later_shorter line (signed_decimal z) e (spells_integer z short).some (integer_shorter (field_of line) z is.0 short) in
    given _ _ shorter)

pub atom_shorter : (known : Atoms) (line : List ℕ) → ends_field line ≡ true → Given (atom_at known line) (λ x. Shorter line (natural_field x.0) x.1)
unfolding atom_at
atom_shorter known line e = given_then _ _ _ _ (natural_shorter 1 most line (omega arith) e) (λ a shorter. given_then _ _ _ _ (given_itself (room_for known a.0 line)) (λ _ _. given _ _ shorter))

any_literal_shorter : (line : List ℕ) → ends_field line ≡ true → Given (any_literal_at line) (λ x. Shorter line (integer_field x.0) x.1)
any_literal_shorter line e = given_then _ _ _ _ (integer_shorter_at (neg_ℤ (pos most)) line (omega arith) e) (λ l shorter. given_if (is_zero l.0) _ _ _ (λ t. given_none _ _) (λ f. given _ _ shorter))

pub literal_shorter : (known : Atoms) (line : List ℕ) → ends_field line ≡ true → Given (literal_at known line) (λ x. Shorter line (integer_field x.0) x.1)
unfolding literal_at
literal_shorter known line e = given_then _ _ _ _ (any_literal_shorter line e) (λ l shorter. given_then _ _ _ _ (given_itself (room_for known (atom_of l.0) line)) (λ _ _. given _ _ shorter))

pub shorter_both : (line first between second after : List ℕ) → Shorter line first between → Shorter between second after → Shorter line (first ++ second) after
shorter_both line first between second after a b = record { fits = omega (arith, a.fits, b.fits, length-append first second); next = b.next }

pub weighted_shorter : (low : ℤ) → IsShort low → (known : Atoms) (line : List ℕ) → ends_field line ≡ true → Given (weighted_at low known line) (λ x. Shorter line (weighted_fields x.0) x.1)
unfolding weighted_at
weighted_shorter low few known line e = given_then _ _ _ _ (literal_shorter known line e) (λ l a. given_then _ _ _ _ (integer_shorter_at low l.1 few a.next) (λ w b.
    let both = shorter_both line (integer_field l.0) l.1 (integer_field w.0) w.1 a b in
    given _ _ both))

-- ---- many of them

pub many_shorter : {A : Type 0} (atom : A → ℕ) (one : Atoms → List ℕ → Reads A) (text : A → List ℕ) →
    ((known : Atoms) (line : List ℕ) → ends_field line ≡ true → Given (one known line) (λ x. Shorter line (text x.0) x.1))
    → (n : ℕ) (known : Atoms) (line : List ℕ) → ends_field line ≡ true → Given (many_at atom one n known line) (λ x. (length x.0 ≡ n) × Shorter line (flat_map text x.0) x.1)
unfolding many_at
many_shorter atom one text each zero known line e = given _ _ (refl, record { fits = omega arith; next = e })
many_shorter atom one text each (suc n) known line e = given_then _ _ _ _ (each known line e) (λ first a.
    given_then _ _ _ _ (many_shorter atom one text each n (with_atom (atom first.0) known) first.1 a.next) (λ others b.
    let both = shorter_both line (text first.0) first.1 (flat_map text others.0) others.1 a b.1 in
    given _ _ (ap suc b.0, both)))

pub count_shorter : (used : ℕ) (line : List ℕ) → ends_field line ≡ true → Given (count_at used line) (λ x. Shorter line (natural_field x.0) x.1)
unfolding count_at
count_shorter used line e = given_then _ _ _ _ (natural_shorter 0 most line (omega arith) e)
    (λ n shorter. given_if (nat_lt most_counted (used + n.0)) _ _ _ (λ t. given_none _ _) (λ f. given _ _ shorter))

counted_both : {A : Type 0} (text : A → List ℕ) (xs : List A) (n : ℕ) (line between after : List ℕ) → length xs ≡ n →
    Shorter line (natural_field n) between → Shorter between (flat_map text xs) after → Shorter line (counted_fields text xs) after
counted_both text xs n line between after same a b = shorter_both line (natural_field (length xs)) between (flat_map text xs) after (rw same a) b

pub literals_shorter : (used : ℕ) (known : Atoms) (line : List ℕ) → ends_field line ≡ true → Given (literals_at used known line) (λ x. Shorter line (counted_fields integer_field x.0) x.1)
literals_shorter used known line e = given_then _ _ _ _ (count_shorter used line e) (λ n a.
    given_after _ _ _ (many_shorter atom_of literal_at integer_field literal_shorter n.0 known n.1 a.next) (λ x b. counted_both integer_field x.0 n.0 line n.1 x.1 b.0 a b.1))

pub weights_shorter : (used : ℕ) (low : ℤ) → IsShort low → (known : Atoms) (line : List ℕ) → ends_field line ≡ true →
    Given (weights_at used low known line) (λ x. Shorter line (counted_fields weighted_fields x.0) x.1)
weights_shorter used low few known line e = given_then _ _ _ _ (count_shorter used line e) (λ n a.
    given_after _ _ _ (many_shorter weighted_atom (weighted_at low) weighted_fields (weighted_shorter low few) n.0 known n.1 a.next)
    (λ x b. counted_both weighted_fields x.0 n.0 line n.1 x.1 b.0 a b.1))
