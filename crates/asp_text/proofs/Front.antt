-- A field of digits at the front of a text.
use Rattle.std.proofs.Common.{◌≡◌, ℕ, suc, ◌+◌, ◌-◌, ◌*◌, ◌<◌, true, false, List, [], ◌∷◌, length, get_or, take, drop, ◌^◌, Some, refl, sym, ap, ◌∙◌, arith, drop-cons}
use Rattle.std.specs.Prelude.{pos, neg_ℤ, ◌-ℤ◌}
use mir.Val.{to_z, of_z}
use mir.Syntax.{w64}
use Rattle.std.proofs.lemmas.Int.{ints}
use Rattle.std.proofs.lemmas.List.{take_all}
use Rattle.std.specs.List.{before_first, position_or_len}
use Rattle.std.specs.Char.{is_ascii_digit}
use Rattle.std.proofs.lemmas.Bool.Decides.{nat_tests}
use Rattle.asp_text.specs.Fields.{is_blank, unblank, field_of, after_field, digits_after, integer_of}
use Rattle.asp_text.specs.Front.{Spells, IsField}

digit_is_filled : (b : ℕ) → is_ascii_digit b ≡ true → is_blank b ≡ false
digit_is_filled b e = grind (arith, nat_tests)

behind_filled : (b : ℕ) (bs : List ℕ) → is_blank b ≡ false → (before_first is_blank (b ∷ bs) ≡ b ∷ before_first is_blank bs) × (position_or_len is_blank (b ∷ bs) ≡ suc (position_or_len is_blank bs))
behind_filled b bs f =
    let k : 1 + position_or_len is_blank bs ≡ suc (position_or_len is_blank bs) = omega arith in
    (rw (f, k) refl, rw (f, k) refl)

digit_more : (value b : ℕ) (bs : List ℕ) → is_ascii_digit b ≡ true → digits_after value (b ∷ bs) ≡ digits_after (value * 10 + (b - 48)) bs
digit_more value b bs e = rw e refl

pub one_digit : (text : List ℕ) (i value b : ℕ) → i < length text → b ≡ get_or text i 0 → is_ascii_digit b ≡ true → Spells text i value → Spells text (i + 1) (value * 10 + (b - 48))
one_digit text i value b lt at digit so_far =
    let i1 : i + 1 ≡ suc i = omega arith in
    let cut : drop i text ≡ b ∷ drop (i + 1) text = rw (i1, at) (drop-cons text i 0 lt) in
    let f = behind_filled b (drop (i + 1) text) (digit_is_filled b digit) in
    record {
      number = sym (digit_more value b (before_first is_blank (drop (i + 1) text)) digit) ∙ sym (ap (digits_after value) (ap (before_first is_blank) cut ∙ f.0)) ∙ so_far.number;
      place = omega (arith, so_far.place, ap (position_or_len is_blank) cut, f.1);
    }

-- ---- a field behind a minus sign

after_sign : (whole : List ℕ) → 0 < length whole → get_or whole 0 0 ≡ 45 → whole ≡ 45 ∷ take (length whole - 1) (drop 1 whole)
after_sign [] some first = absurd (omega arith)
after_sign (b ∷ bs) some first =
    let less : suc (length bs) - 1 ≡ length bs = omega arith in
    rw (first, less) (ap (λ (t : List ℕ). 45 ∷ t) (sym (take_all (length bs) bs (omega arith))))

behind_sign : (line text rest : List ℕ) (n : ℕ) → unblank (45 ∷ text) ≡ unblank line → IsField text n rest → (integer_of (field_of line) ≡ Some (neg_ℤ (pos n))) × (rest ≡ after_field line)
behind_sign line text rest n same field =
    let front : unblank line ≡ 45 ∷ text = sym same in
    let h = behind_filled 45 text refl in
    (rw (front, h.0, field.number) refl, rw (front, h.1) field.behind)

pub negative : (line whole rest : List ℕ) (n : ℕ) → unblank whole ≡ unblank line → 0 < length whole → get_or whole 0 0 ≡ 45 →
    IsField (take (length whole - 1) (drop 1 whole)) n rest → (integer_of (field_of line) ≡ Some (neg_ℤ (pos n))) × (rest ≡ after_field line)
negative line whole rest n same some first field =
    behind_sign line (take (length whole - 1) (drop 1 whole)) rest n (ap unblank (sym (after_sign whole some first)) ∙ same) field

pub minus : (n : ℕ) → n < 10 ^ 18 → to_z w64 (of_z w64 (pos 0 -ℤ to_z w64 n)) ≡ neg_ℤ (pos n)
minus n h = omega (arith, ints)
