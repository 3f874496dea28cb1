-- A field with its value, or the fault of it; and what follows it on the line.
use Rattle.std.specs.Prelude.{ℕ, zero, suc, ◌+◌, ◌==◌, ◌&&◌, Bool, true, false, not, if◌then◌else◌, nat_lt, nat_le, List, [], ◌∷◌, length, take, drop, ℤ, pos, negsuc, neg_ℤ, int_lt, ◌||◌}
use Rattle.std.specs.declared.option.Option.{Option}
use Rattle.std.specs.declared.option.Option.TheVariants.{None, Some}
use Rattle.std.specs.declared.result.Result.{Result}
use Rattle.std.specs.declared.result.Result.TheVariants.{Ok, Err}
use Rattle.asp_text.specs.Fields.{is_blank, unblank, field_of, after_field, integer_of}
use Rattle.asp_model.specs.Sets.{Atoms, has, with_atom}
use Rattle.asp_model.specs.Holding.{atom_of}
use Rattle.asp_text.specs.Fields.{num_of}
use Rattle.asp_text.specs.declared.numbers.Num.TheVariants.{Value}
use Rattle.asp_read.specs.declared.fault.FaultKind.TheVariants as kind
use Rattle.asp_read.specs.declared.error.FaultAt.{FaultAt}
use Rattle.asp_read.specs.Places.{broken}

infixl 10 ◌>>=◌
abbrev pub ◌>>=◌ : {A B E : Type 0} → Result A E → (A → Result B E) → Result B E
(Ok x) >>= f = f x
(Err e) >>= f = Err e

-- a value and the bytes after it
abbrev pub Reads : Type 0 → Type 0
Reads A = Result (A × List ℕ) FaultAt

-- a whole number in a range; the line is that from its field on
abbrev pub natural_in : ℕ → ℕ → List ℕ → Option ℤ → Result ℕ FaultAt
natural_in low high line None = Err (broken (kind.Natural low high (num_of None)) line)
natural_in low high line (Some (pos n)) = if nat_le low n && nat_le n high then Ok n else Err (broken (kind.Natural low high (num_of (Some (pos n)))) line)
natural_in low high line (Some (negsuc n)) = Err (broken (kind.Natural low high (num_of (Some (negsuc n)))) line)

abbrev pub integer_in : ℤ → ℤ → List ℕ → Option ℤ → Result ℤ FaultAt
integer_in low high line None = Err (broken (kind.Integer low high (num_of None)) line)
integer_in low high line (Some z) = if int_lt z low || int_lt high z then Err (broken (kind.Integer low high (num_of (Some z))) line) else Ok z

abbrev pub natural_at : ℕ → ℕ → List ℕ → Reads ℕ
natural_at low high line = natural_in low high line (integer_of (field_of line)) >>= λ n. Ok (n, after_field line)

abbrev pub integer_at : ℤ → ℤ → List ℕ → Reads ℤ
integer_at low high line = integer_in low high line (integer_of (field_of line)) >>= λ z. Ok (z, after_field line)

abbrev pub most : ℕ
most = 2147483647

-- a signed number of 32 bits
abbrev pub signed_at : List ℕ → Reads ℤ
signed_at line = integer_at (negsuc most) (pos most) line

-- the most different atoms of a program
abbrev pub most_atoms : ℕ
most_atoms = 1000000

-- an atom that stood nowhere before, where as many stood as may
abbrev pub is_one_too_many : Atoms → ℕ → Bool
is_one_too_many known atom = not (has known atom) && nat_le most_atoms (length known)

-- an atom, where these are known from before
abbrev pub room_for : Atoms → ℕ → List ℕ → Result (Unit {0}) FaultAt
room_for known atom line = if is_one_too_many known atom then Err (broken kind.Atoms line) else Ok tt

unfoldable pub atom_at : Atoms → List ℕ → Reads ℕ
atom_at known line = do
  atom ← natural_at 1 most line
  _ ← room_for known atom.0 line
  Ok atom

abbrev pub is_zero : ℤ → Bool
is_zero (pos n) = n == 0
is_zero (negsuc n) = false

-- a literal, whatever atoms are known
abbrev pub any_literal_at : List ℕ → Reads ℤ
any_literal_at line = do
  literal ← integer_at (neg_ℤ (pos most)) (pos most) line
  if is_zero literal.0 then Err (broken (kind.Integer (neg_ℤ (pos most)) (pos most) (Value (pos 0))) line) else Ok literal

unfoldable pub literal_at : Atoms → List ℕ → Reads ℤ
literal_at known line = do
  literal ← any_literal_at line
  _ ← room_for known (atom_of literal.0) line
  Ok literal

-- what follows so many literals, of which none is kept
unfoldable pub passed_at : ℕ → List ℕ → Result (List ℕ) FaultAt
passed_at zero line = Ok line
passed_at (suc n) line = any_literal_at line >>= λ literal. passed_at n literal.1

-- a literal and its weight
unfoldable pub weighted_at : ℤ → Atoms → List ℕ → Reads (ℤ × ℤ)
weighted_at low known line = do
  literal ← literal_at known line
  weight ← integer_at low (pos most) literal.1
  Ok ((literal.0, weight.0), weight.1)

-- the greatest sum of all counts of a program
abbrev pub most_counted : ℕ
most_counted = 16777216

-- a count, where this many were counted before
unfoldable pub count_at : ℕ → List ℕ → Reads ℕ
count_at used line = do
  n ← natural_at 0 most line
  if nat_lt most_counted (used + n.0) then Err (broken kind.Counts line) else Ok n

-- so many of them, each with an atom that is known behind it
unfoldable pub many_at : {A : Type 0} → (A → ℕ) → (Atoms → List ℕ → Reads A) → ℕ → Atoms → List ℕ → Reads (List A)
many_at atom one zero known line = Ok ([], line)
many_at atom one (suc n) known line = do
  first ← one known line
  others ← many_at atom one n (with_atom (atom first.0) known) first.1
  Ok (first.0 ∷ others.0, others.1)

abbrev pub weighted_atom : ℤ × ℤ → ℕ
weighted_atom item = atom_of item.0

abbrev pub literals_at : ℕ → Atoms → List ℕ → Reads (List ℤ)
literals_at used known line = count_at used line >>= λ n. many_at atom_of literal_at n.0 known n.1

abbrev pub weights_at : ℕ → ℤ → Atoms → List ℕ → Reads (List (ℤ × ℤ))
weights_at used low known line = count_at used line >>= λ n. many_at weighted_atom (weighted_at low) n.0 known n.1

-- a blank or the line's end
abbrev pub ends_field : List ℕ → Bool
ends_field [] = true
ends_field (b ∷ bs) = is_blank b

-- one blank, a text of so many bytes, and the end of the field
abbrev pub text_at : ℕ → List ℕ → Reads (List ℕ)
text_at n [] = Err (broken kind.Text [])
text_at n (b ∷ bs) = if is_blank b && (nat_le n (length bs) && ends_field (drop n bs)) then Ok (take n bs, drop n bs) else Err (broken kind.Text (b ∷ bs))

-- no further field
abbrev pub ended : List ℕ → Result (Unit {0}) FaultAt
ended line = if length (unblank line) == 0 then Ok tt else Err (broken kind.ExtraFields line)

-- a value behind which no field stands
abbrev pub alone : {A : Type 0} → A × List ℕ → Result A FaultAt
alone x = ended x.1 >>= λ _. Ok x.0
