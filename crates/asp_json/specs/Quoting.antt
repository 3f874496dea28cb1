-- Text in quotes, and how it is read back.
use Rattle.std.specs.Prelude.{ℕ, zero, suc, ◌+◌, ◌-◌, ◌*◌, ◌/◌, ◌%◌, ◌==◌, ◌||◌, nat_lt, if◌then◌else◌, List, [], ◌∷◌, ◌++◌, flat_map, Option, None, Some, option_map}
use Rattle.asp_model.specs.declared.program.Output.{Output}

-- the digit of a number below 16
abbrev pub hex_digit : ℕ → ℕ
hex_digit n = if nat_lt n 10 then 48 + n else 87 + n

-- a byte within quotes: a quote or a backslash after a backslash, a control character by its number, and any other as it is
abbrev pub escaped : ℕ → List ℕ
escaped b =
    if b == 34 || b == 92 then 92 ∷ b ∷ []
    else (if nat_lt b 32 then 92 ∷ 117 ∷ 48 ∷ 48 ∷ hex_digit (b / 16) ∷ hex_digit (b % 16) ∷ [] else b ∷ [])

abbrev pub quoted : List ℕ → List ℕ
quoted text = 34 ∷ (flat_map escaped text ++ 34 ∷ [])

abbrev pub quoted_output : Output → Output
quoted_output o = record { text = quoted o.text; condition = o.condition }

-- ---- read back
-- the number of a digit
abbrev pub hex_value : ℕ → ℕ
hex_value d = if nat_lt d 58 then d - 48 else d - 87

-- what was read of a character: nothing, a backslash, or digits of its number, of which one and so many are still to come
pub data Begun : Type 0 where
  nothing : Begun
  backslash : Begun
  digits : ℕ → ℕ → Begun

-- nothing may follow the last quote
abbrev pub at_end : List ℕ → Option (List ℕ)
at_end [] = Some []
at_end (b ∷ bs) = None

-- the text before the last quote
abbrev pub unescaped : Begun → List ℕ → Option (List ℕ)
unescaped begun [] = None
unescaped nothing (b ∷ bs) = if b == 34 then at_end bs else (if b == 92 then unescaped backslash bs else option_map (λ t. b ∷ t) (unescaped nothing bs))
unescaped backslash (b ∷ bs) = if b == 117 then unescaped (digits 3 0) bs else option_map (λ t. b ∷ t) (unescaped nothing bs)
unescaped (digits zero n) (b ∷ bs) = option_map (λ t. (16 * n + hex_value b) ∷ t) (unescaped nothing bs)
unescaped (digits (suc more) n) (b ∷ bs) = unescaped (digits more (16 * n + hex_value b)) bs

-- the text that stands in quotes
abbrev pub unquoted : List ℕ → Option (List ℕ)
unquoted [] = None
unquoted (b ∷ bs) = if b == 34 then unescaped nothing bs else None
