-- A field of digits at the front of a text.
use Rattle.std.specs.Prelude.{◌≡◌, ℕ, ◌+◌, List, drop}
use Rattle.std.specs.List.{before_first, position_or_len}
use Rattle.std.specs.declared.option.Option.TheVariants.{Some}
use Rattle.asp_text.specs.Fields.{is_blank, digits_after, natural_of}

-- the bytes before i are digits of this value, and no blank
pub record Spells (text : List ℕ) (i value : ℕ) : Type 0 where
  pub number : digits_after value (before_first is_blank (drop i text)) ≡ digits_after 0 (before_first is_blank text)
  pub place : position_or_len is_blank text ≡ i + position_or_len is_blank (drop i text)

-- the bytes before the first blank spell n, and the rest follows them
pub record IsField (text : List ℕ) (n : ℕ) (rest : List ℕ) : Type 0 where
  pub number : natural_of (before_first is_blank text) ≡ Some n
  pub behind : rest ≡ drop (position_or_len is_blank text) text
