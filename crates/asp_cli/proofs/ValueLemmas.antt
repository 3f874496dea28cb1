-- A text is read as a number exactly where the definition finds one in it.
use Rattle.std.proofs.Common.{◌≡◌, ℕ, ◌<◌, ◌^◌, Bool, true, false, cond, ◌&&◌, List, [], ◌∷◌, length, Some, None, nat_le, nat_lt, refl, sym, ap, ◌∙◌}
use Rattle.std.specs.List.{list_all}
use Rattle.std.specs.Char.{digit_value}
use Rattle.std.specs.Str.Parse.{AllDigits, IsNumeral, digits_value, without_leading_plus}
use Rattle.std.proofs.lemmas.Bool.{and_parts, ltb-true, lt-ltb}
use Rattle.asp_cli.specs.Values.{is_number_in, is_numeral, number_within}

abbrev pub IsRead : List ℕ → Type 0
IsRead t = IsNumeral 10 (without_leading_plus t) × (digits_value 10 (without_leading_plus t) < 2 ^ 64)

digits_from : (ds : List ℕ) → list_all (λ d. nat_lt (digit_value d) 10) ds ≡ true → AllDigits 10 ds
digits_from [] e = tt
digits_from (d ∷ ds) e =
    let parts = and_parts _ _ e in
    (ltb-true _ _ parts.0, digits_from ds parts.1)

digits_back : (ds : List ℕ) → AllDigits 10 ds → list_all (λ d. nat_lt (digit_value d) 10) ds ≡ true
digits_back [] h = refl
digits_back (d ∷ ds) h = rw (lt-ltb (digit_value d) 10 h.0) (digits_back ds h.1)

numeral_from : (ds : List ℕ) → is_numeral ds ≡ true → IsNumeral 10 ds
numeral_from ds e =
    let parts = and_parts (nat_lt 0 (length ds)) (list_all (λ d. nat_lt (digit_value d) 10) ds) e in
    (ltb-true _ _ parts.0, digits_from ds parts.1)

numeral_back : (ds : List ℕ) → IsNumeral 10 ds → is_numeral ds ≡ true
numeral_back ds h = rw (lt-ltb 0 (length ds) h.0) (digits_back ds h.1)

pub within-read : (least most n : ℕ) (t : List ℕ) → IsRead t × (n ≡ digits_value 10 (without_leading_plus t)) →
    cond (nat_le least n && nat_le n most) (Some n) None ≡ number_within least most t
within-read least most n t h =
    let d = digits_value 10 (without_leading_plus t) in
    ap (λ x. cond (nat_le least x && nat_le x most) (Some x) None) h.1
    ∙ sym (ap (λ b. cond (b && (nat_lt d (2 ^ 64) && (nat_le least d && nat_le d most))) (Some d) None) (numeral_back _ h.0.0)
    ∙ ap (λ b. cond (b && (nat_le least d && nat_le d most)) (Some d) None) (lt-ltb d (2 ^ 64) h.0.1))

pub within-none : (least most : ℕ) (t : List ℕ) → ¬ IsRead t → None ≡ number_within least most t
within-none least most t none = here (is_number_in least most t) refl
  where
    here : (b : Bool) → b ≡ is_number_in least most t → None ≡ cond b (Some (digits_value 10 (without_leading_plus t))) None
    here true e =
        let d = digits_value 10 (without_leading_plus t) in
        let one = and_parts (is_numeral (without_leading_plus t)) (nat_lt d (2 ^ 64) && (nat_le least d && nat_le d most)) (sym e) in
        let two = and_parts (nat_lt d (2 ^ 64)) (nat_le least d && nat_le d most) one.1 in
        absurd (none (numeral_from _ one.0, ltb-true _ _ two.0))
    here false e = refl
