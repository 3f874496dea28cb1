-- The fields of a line and the whole numbers that they spell.
use Rattle.std.specs.Prelude.{ℕ, ◌+◌, ◌-◌, ◌*◌, ◌^◌, ◌==◌, ◌||◌, nat_lt, Bool, not, if◌then◌else◌, List, [], ◌∷◌, length, drop, filter, ℤ, pos, negsuc, neg_ℤ}
use Rattle.std.specs.List.{before_first, position_or_len}
use Rattle.std.specs.Char.{is_ascii_digit}
use Rattle.std.specs.Option.{option_map}
use Rattle.std.specs.declared.option.Option.{Option}
use Rattle.std.specs.declared.option.Option.TheVariants.{None, Some}
use Rattle.asp_text.specs.Lines.{onto}
use Rattle.asp_text.specs.declared.numbers.Num.{Num}
use Rattle.asp_text.specs.declared.numbers.Num.TheVariants.{Value, Big, NotNumber}

-- a space or a tab
abbrev pub is_blank : ℕ → Bool
is_blank b = b == 32 || b == 9

abbrev pub is_filled : ℕ → Bool
is_filled b = not (is_blank b)

-- a line from its first byte that is no blank
abbrev pub unblank : List ℕ → List ℕ
unblank line = drop (position_or_len is_filled line) line

-- the first field, empty where there is none, and what follows it
abbrev pub field_of : List ℕ → List ℕ
field_of line = before_first is_blank (unblank line)

abbrev pub after_field : List ℕ → List ℕ
after_field line = drop (position_or_len is_blank (unblank line)) (unblank line)

-- a line cut at each of its blanks
abbrev pub cut_at_blanks : List ℕ → List (List ℕ)
cut_at_blanks [] = [] ∷ []
cut_at_blanks (b ∷ bs) = if is_blank b then [] ∷ cut_at_blanks bs else onto b (cut_at_blanks bs)

abbrev pub is_some_field : List ℕ → Bool
is_some_field field = nat_lt 0 (length field)

-- the longest runs of bytes that are no blanks
abbrev pub fields_of : List ℕ → List (List ℕ)
fields_of line = filter is_some_field (cut_at_blanks line)

-- the number that digits spell behind those of n
abbrev pub digits_after : ℕ → List ℕ → Option ℕ
digits_after n [] = Some n
digits_after n (b ∷ bs) = if is_ascii_digit b then digits_after (n * 10 + (b - 48)) bs else None

-- one digit or more
abbrev pub natural_of : List ℕ → Option ℕ
natural_of [] = None
natural_of (b ∷ bs) = digits_after 0 (b ∷ bs)

-- a minus sign or none, and one digit or more
abbrev pub integer_of : List ℕ → Option ℤ
integer_of [] = None
integer_of (b ∷ bs) = if b == 45 then option_map (λ n. neg_ℤ (pos n)) (natural_of bs) else option_map pos (natural_of (b ∷ bs))

-- of 64 bits with a sign
abbrev pub is_i64 : ℤ → Bool
is_i64 (pos n) = nat_lt n (2 ^ 63)
is_i64 (negsuc n) = nat_lt n (2 ^ 63)

abbrev pub num_of : Option ℤ → Num
num_of None = NotNumber
num_of (Some z) = if is_i64 z then Value z else Big
