-- What a line of a smodels text says, or its first fault from the left.
use Rattle.std.specs.Prelude.{ℕ, ◌+◌, ◌==◌, Bool, if◌then◌else◌, nat_le, List, [], ◌∷◌, ℤ, pos, negsuc, codes}
use Rattle.std.specs.declared.option.Option.{Option}
use Rattle.std.specs.declared.option.Option.TheVariants.{None, Some}
use Rattle.std.specs.declared.result.Result.{Result}
use Rattle.std.specs.declared.result.Result.TheVariants.{Ok, Err}
use Rattle.asp_text.specs.Fields.{field_of, after_field, integer_of, num_of}
use Rattle.asp_text.specs.declared.numbers.Num.TheVariants.{Value}
use Rattle.asp_model.specs.declared.program.Head.TheVariants.{One, Choice}
use Rattle.asp_model.specs.declared.program.Body.TheVariants.{All, AtLeast}
use Rattle.asp_model.specs.declared.program.Rule.{Rule}
use Rattle.asp_model.specs.declared.program.Minimize.{Minimize}
use Rattle.asp_model.specs.declared.program.Output.{Output}
use Rattle.asp_model.specs.Sets.{Atoms, with_atom, with_atoms}
use Rattle.asp_read.specs.declared.fault.FaultKind.TheVariants as fault
use Rattle.asp_read.specs.declared.error.FaultAt.{FaultAt}
use Rattle.asp_read.specs.Places.{broken}
use Rattle.asp_read.specs.declared.statement.Statement.{Statement}
use Rattle.asp_read.specs.declared.statement.Statement.TheVariants as say
use Rattle.asp_read.specs.Fields.{◌>>=◌, Reads, natural_at, atom_at, many_at, count_at, alone, most}
use Rattle.asp_read.specs.Statements.{is_number, is_word}
use Rattle.asp_smodels.specs.Parts.{one_more_at, heads_at, negated_at, weight_at, literal_of, signed_at, literals_at, weighted_at, with_weight_1}

-- ---- rules

-- a head, and literals that all hold
unfoldable pub basic_at : ℕ → Atoms → List ℕ → Reads Rule
basic_at used known line = do
  head ← one_more_at used known line
  literals ← literals_at (used + 1) (with_atom head.0 known) head.1
  Ok (record { head = One head.0; body = All literals.0 }, literals.1)

-- a head, and literals of which so many hold; the bound comes after the counts
unfoldable pub cardinality_at : ℕ → Atoms → List ℕ → Reads Rule
cardinality_at used known line = do
  head ← one_more_at used known line
  n ← count_at (used + 1) head.1
  k ← negated_at n.0 n.1
  bound ← weight_at k.1
  literals ← signed_at n.0 k.0 (with_atom head.0 known) bound.1
  Ok (record { head = One head.0; body = AtLeast bound.0 (with_weight_1 literals.0) }, literals.1)

-- atoms to choose from, and literals that all hold
unfoldable pub choice_at : ℕ → Atoms → List ℕ → Reads Rule
choice_at used known line = do
  m ← heads_at used line
  heads ← many_at (λ atom. atom) atom_at m.0 known m.1
  literals ← literals_at (used + m.0) (with_atoms known heads.0) heads.1
  Ok (record { head = Choice heads.0; body = All literals.0 }, literals.1)

-- a head, a bound, and literals whose weights reach it
unfoldable pub weight_rule_at : ℕ → Atoms → List ℕ → Reads Rule
weight_rule_at used known line = do
  head ← one_more_at used known line
  bound ← weight_at head.1
  items ← weighted_at (used + 1) (with_atom head.0 known) bound.1
  Ok (record { head = One head.0; body = AtLeast bound.0 items.0 }, items.1)

-- a 0, and literals with weights, after so many of these statements
unfoldable pub minimize_at : ℕ → ℕ → Atoms → List ℕ → Reads Minimize
minimize_at number used known line = do
  zero ← natural_at 0 0 line
  items ← weighted_at used known zero.1
  Ok (record { priority = pos number; items = items.0 }, items.1)

-- a number from 0 to 8
abbrev pub type_in : List ℕ → Option ℤ → Result ℕ FaultAt
type_in line None = Err (broken (fault.RuleType (num_of None)) line)
type_in line (Some (pos n)) = if nat_le n 8 then Ok n else Err (broken (fault.RuleType (num_of (Some (pos n)))) line)
type_in line (Some (negsuc n)) = Err (broken (fault.RuleType (num_of (Some (negsuc n)))) line)

abbrev pub type_at : List ℕ → Reads ℕ
type_at line = type_in line (integer_of (field_of line)) >>= λ t. Ok (t, after_field line)

-- the line, and what follows its type
unfoldable pub of_type : ℕ → ℕ → ℕ → Atoms → List ℕ → List ℕ → Result Statement FaultAt
of_type t number used known line rest =
    if t == 0 then alone (say.End, rest) else (
    if t == 1 then (basic_at used known rest >>= alone >>= λ r. Ok (say.Rule r)) else (
    if t == 2 then (cardinality_at used known rest >>= alone >>= λ r. Ok (say.Rule r)) else (
    if t == 3 then (choice_at used known rest >>= alone >>= λ r. Ok (say.Rule r)) else (
    if t == 5 then (weight_rule_at used known rest >>= alone >>= λ r. Ok (say.Rule r)) else (
    if t == 6 then (if nat_le 1000 number then Err (broken fault.Priorities line) else (minimize_at number used known rest >>= alone >>= λ m. Ok (say.Minimize m))) else (
    if t == 8 then Err (broken fault.Disjunction line) else
    Err (broken (fault.RuleType (Value (pos t))) line)))))))

unfoldable pub rule_line : ℕ → ℕ → Atoms → List ℕ → Result Statement FaultAt
rule_line number used known line = type_at line >>= λ t. of_type t.0 number used known line t.1

-- ---- symbols

-- one blank and a name
abbrev pub name_of : List ℕ → Result (List ℕ) FaultAt
name_of [] = Err (broken fault.Name [])
name_of (b ∷ []) = Err (broken fault.Name (b ∷ []))
name_of (b ∷ c ∷ bytes) = Ok (c ∷ bytes)

-- an atom, one blank and its name, up to the line's end
unfoldable pub symbol_at : ℕ → Atoms → List ℕ → Result Output FaultAt
symbol_at used known line = do
  atom ← one_more_at used known line
  name ← name_of atom.1
  Ok (record { text = name; condition = pos atom.0 ∷ [] })

-- whether a list ends with this line
abbrev pub is_end : List ℕ → Bool
is_end line = is_number 0 (integer_of (field_of line))

unfoldable pub symbol_line : ℕ → Atoms → List ℕ → Result Statement FaultAt
symbol_line used known line = if is_end line then alone (say.End, after_field line) else (symbol_at used known line >>= λ o. Ok (say.Output o))

-- ---- assumptions and the end

-- a line that begins a section
unfoldable pub word_line : List ℕ → List ℕ → Result Statement FaultAt
word_line word line = if is_word (field_of line) word then alone (say.End, after_field line) else Err (broken fault.Section line)

-- an atom that is assumed true or false
unfoldable pub assumed_line : Bool → ℕ → Atoms → List ℕ → Result Statement FaultAt
assumed_line negated used known line = if is_end line then alone (say.End, after_field line) else (one_more_at used known line >>= alone >>= λ a. Ok (say.Assume (literal_of negated a ∷ [])))

-- how many answers are wanted, which isn't used
unfoldable pub number_line : List ℕ → Result Statement FaultAt
number_line line = if is_word (field_of line) (codes "E") then Err (broken fault.Externals line) else (natural_at 0 most line >>= alone >>= λ _. Ok say.End)
