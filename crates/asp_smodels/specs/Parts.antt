-- The parts of a rule, field by field from the left.
use Rattle.std.specs.Prelude.{ℕ, ◌-◌, ◌==◌, Bool, true, false, if◌then◌else◌, nat_lt, nat_le, List, [], ◌∷◌, ◌++◌, map, ℤ, pos, negsuc, neg_ℤ}
use Rattle.std.specs.declared.option.Option.{Option}
use Rattle.std.specs.declared.option.Option.TheVariants.{None, Some}
use Rattle.std.specs.declared.result.Result.{Result}
use Rattle.std.specs.declared.result.Result.TheVariants.{Ok, Err}
use Rattle.asp_text.specs.Fields.{field_of, after_field, integer_of, num_of}
use Rattle.asp_text.specs.declared.numbers.Num.TheVariants.{Value}
use Rattle.asp_model.specs.Sets.{Atoms, with_atoms}
use Rattle.asp_model.specs.Holding.{atom_of}
use Rattle.asp_read.specs.declared.fault.FaultKind.TheVariants as fault
use Rattle.asp_read.specs.declared.error.FaultAt.{FaultAt}
use Rattle.asp_read.specs.Places.{broken}
use Rattle.asp_read.specs.Fields.{◌>>=◌, Reads, integer_at, atom_at, count_at, many_at, most, most_counted}

-- an atom that counts as one, where this many were counted before
unfoldable pub one_more_at : ℕ → Atoms → List ℕ → Reads ℕ
one_more_at used known line = if nat_lt used most_counted then atom_at known line else Err (broken fault.Counts line)

-- the atoms of a head, at least one
unfoldable pub heads_at : ℕ → List ℕ → Reads ℕ
heads_at used line = do
  m ← count_at used line
  if m.0 == 0 then Err (broken (fault.Natural 1 most_counted (Value (pos 0))) line) else Ok m

-- how many of n literals are negated; the line is that from its field on
abbrev pub negated_in : ℕ → List ℕ → Option ℤ → Result ℕ FaultAt
negated_in n line None = Err (broken (fault.Negated n (num_of None)) line)
negated_in n line (Some (pos k)) = if nat_le k n then Ok k else Err (broken (fault.Negated n (num_of (Some (pos k)))) line)
negated_in n line (Some (negsuc k)) = Err (broken (fault.Negated n (num_of (Some (negsuc k)))) line)

abbrev pub negated_at : ℕ → List ℕ → Reads ℕ
negated_at n line = negated_in n line (integer_of (field_of line)) >>= λ k. Ok (k, after_field line)

-- a bound or a weight
abbrev pub weight_at : List ℕ → Reads ℤ
weight_at line = integer_at (pos 0) (pos most) line

-- an atom as a literal, negated or not
abbrev pub literal_of : Bool → ℕ → ℤ
literal_of negated atom = if negated then neg_ℤ (pos atom) else pos atom

unfoldable pub literal_at : Bool → Atoms → List ℕ → Reads ℤ
literal_at negated known line = do
  atom ← atom_at known line
  Ok (literal_of negated atom.0, atom.1)

-- n atoms as literals, of which the first k are negated
unfoldable pub signed_at : ℕ → ℕ → Atoms → List ℕ → Reads (List ℤ)
signed_at n k known line = do
  negative ← many_at atom_of (literal_at true) k known line
  positive ← many_at atom_of (literal_at false) (n - k) (with_atoms known (map atom_of negative.0)) negative.1
  Ok (negative.0 ++ positive.0, positive.1)

-- a count of literals, how many of them are negated, and the literals
unfoldable pub literals_at : ℕ → Atoms → List ℕ → Reads (List ℤ)
literals_at used known line = do
  n ← count_at used line
  k ← negated_at n.0 n.1
  signed_at n.0 k.0 known k.1

-- a weight for each literal
unfoldable pub weights_at : List ℤ → List ℕ → Reads (List (ℤ × ℤ))
weights_at [] line = Ok ([], line)
weights_at (l ∷ ls) line = do
  weight ← weight_at line
  others ← weights_at ls weight.1
  Ok ((l, weight.0) ∷ others.0, others.1)

-- literals, and then their weights
unfoldable pub weighted_at : ℕ → Atoms → List ℕ → Reads (List (ℤ × ℤ))
weighted_at used known line = do
  literals ← literals_at used known line
  weights_at literals.0 literals.1

-- the literals, each with the weight 1
abbrev pub with_weight_1 : List ℤ → List (ℤ × ℤ)
with_weight_1 literals = map (λ l. (l, pos 1)) literals
