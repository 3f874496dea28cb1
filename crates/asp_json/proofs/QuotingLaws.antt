-- What stands in quotes is read back.
use Rattle.std.proofs.Common.{◌≡◌, ℕ, ◌+◌, ◌-◌, ◌*◌, ◌/◌, ◌%◌, ◌<◌, ◌≤◌, Bool, true, false, List, [], ◌∷◌, ◌++◌, refl, sym, ap, ◌∙◌, append_assoc, arith, flat_map, take, length, get_or}
use Rattle.std.specs.Prelude.{◌==◌, ◌||◌, nat_lt, if◌then◌else◌, Some, option_map}
use Rattle.std.proofs.lemmas.Bool.{eqb-true, le-ltb, lt-ltb, ltb-false, ltb-true}
use Rattle.std.proofs.lemmas.List.{flat_map_more, take_more}
use Rattle.asp_json.specs.Quoting.{nothing, escaped, hex_digit, hex_value, quoted, unescaped, unquoted}

digit-back : (n : ℕ) → n < 16 → hex_value (hex_digit n) ≡ n
digit-back n lt = by (nat_lt n 10) refl
  where
    by : (t : Bool) → nat_lt n 10 ≡ t → hex_value (if t then 48 + n else 87 + n) ≡ n
    by true e = let low : n < 10 = ltb-true n 10 e in rw (lt-ltb (48 + n) 58 (omega arith)) (omega arith)
    by false e = let high : 10 ≤ n = ltb-false n 10 e in rw (le-ltb (87 + n) 58 (omega arith)) (omega arith)

code-back : (b : ℕ) (rest : List ℕ) → b < 32 → unescaped nothing (92 ∷ 117 ∷ 48 ∷ 48 ∷ hex_digit (b / 16) ∷ hex_digit (b % 16) ∷ rest) ≡ option_map (λ t. b ∷ t) (unescaped nothing rest)
code-back b rest lt =
    let high : hex_value (hex_digit (b / 16)) ≡ b / 16 = digit-back (b / 16) (omega (arith, lt)) in
    let low : hex_value (hex_digit (b % 16)) ≡ b % 16 = digit-back (b % 16) (omega arith) in
    let same : 16 * (0 + hex_value (hex_digit (b / 16))) + hex_value (hex_digit (b % 16)) ≡ b = omega (arith, high, low) in
    ap (λ n. option_map (λ t. n ∷ t) (unescaped nothing rest)) same

byte-back : (b : ℕ) (rest : List ℕ) → unescaped nothing (escaped b ++ rest) ≡ option_map (λ t. b ∷ t) (unescaped nothing rest)
byte-back b rest = by (b == 34) (b == 92) (nat_lt b 32) refl refl refl
  where
    by : (p q r : Bool) → (b == 34) ≡ p → (b == 92) ≡ q → nat_lt b 32 ≡ r
        → unescaped nothing ((if p || q then 92 ∷ b ∷ []
        else (if r then 92 ∷ 117 ∷ 48 ∷ 48 ∷ hex_digit (b / 16) ∷ hex_digit (b % 16) ∷ [] else b ∷ [])) ++ rest) ≡ option_map (λ t. b ∷ t)
        (unescaped nothing rest)
    by true q r is _ _ = let e : b ≡ 34 = eqb-true b 34 is in rw e refl
    by false true r _ is _ = let e : b ≡ 92 = eqb-true b 92 is in rw e refl
    by false false true _ _ is = code-back b rest (ltb-true b 32 is)
    by false false false p q _ = rw (p, q) refl

text-back : (text : List ℕ) → unescaped nothing (flat_map escaped text ++ 34 ∷ []) ≡ Some text
text-back [] = refl
text-back (b ∷ bs) = ap (unescaped nothing) (append_assoc (escaped b) (flat_map escaped bs) (34 ∷ [])) ∙ byte-back b (flat_map escaped bs ++ 34 ∷ []) ∙ ap (option_map (λ t. b ∷ t)) (text-back bs)

pub quoted-back : (text : List ℕ) → unquoted (quoted text) ≡ Some text
quoted-back text = text-back text

-- one byte more
pub push-turn : (base now piece new text : List ℕ) (i : ℕ) → i < length text → now ≡ base ++ flat_map escaped (take i text) → piece ≡ escaped (get_or text i 0) → new ≡ now ++ piece
    → new ≡ base ++ flat_map escaped (take (i + 1) text)
push-turn base now piece new text i lt all is e =
    e ∙ ap (λ (t : List ℕ). now ++ t) is ∙ ap (λ (t : List ℕ). t ++ escaped (get_or text i 0)) all ∙ flat_map_more escaped base (take i text) (get_or text i 0)
    ∙ ap (λ (t : List ℕ). base ++ flat_map escaped t) (sym (take_more text i 0 lt))
