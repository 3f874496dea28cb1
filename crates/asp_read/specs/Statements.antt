-- What a line says after the program so far, or its first fault from the left.
use Rattle.std.specs.Prelude.{ℕ, ◌+◌, ◌==◌, ◌&&◌, Bool, false, not, if◌then◌else◌, nat_lt, nat_le, List, [], ◌∷◌, ◌++◌, length, map, ℤ, pos, negsuc, codes, is_some, nat_eq}
use Rattle.std.specs.Ordering.{int_eq}
use Rattle.std.specs.Cmp.Lexicographic.{pointwise}
use Rattle.std.specs.List.{list_any}
use Rattle.std.specs.declared.option.Option.{Option}
use Rattle.std.specs.declared.option.Option.TheVariants.{None, Some}
use Rattle.std.specs.declared.result.Result.{Result}
use Rattle.std.specs.declared.result.Result.TheVariants.{Ok, Err}
use Rattle.asp_text.specs.Fields.{field_of, after_field, integer_of, natural_of}
use Rattle.asp_model.specs.declared.program.Head.{Head}
use Rattle.asp_model.specs.declared.program.Head.TheVariants.{One, Choice, Never}
use Rattle.asp_model.specs.declared.program.Body.{Body}
use Rattle.asp_model.specs.declared.program.Body.TheVariants.{All, AtLeast}
use Rattle.asp_model.specs.declared.program.Rule.{Rule}
use Rattle.asp_model.specs.declared.program.Minimize.{Minimize}
use Rattle.asp_model.specs.declared.program.Output.{Output}
use Rattle.asp_model.specs.declared.program.External.{External}
use Rattle.asp_model.specs.declared.program.ExternalValue.{ExternalValue}
use Rattle.asp_model.specs.declared.program.ExternalValue.TheVariants as value
use Rattle.asp_model.specs.declared.program.Program.{Program}
use Rattle.asp_model.specs.Sets.{Atoms, with_atoms}
use Rattle.asp_model.specs.Models.{head_atoms}
use Rattle.asp_read.specs.Sizes.{head_size, program_size}
use Rattle.asp_text.specs.Fields.{num_of}
use Rattle.asp_read.specs.declared.fault.FaultKind.TheVariants as fault
use Rattle.asp_read.specs.declared.error.FaultAt.{FaultAt}
use Rattle.asp_read.specs.Places.{broken}
use Rattle.asp_read.specs.declared.statement.Statement.{Statement}
use Rattle.asp_read.specs.declared.statement.Statement.TheVariants as say
use Rattle.asp_read.specs.Fields.{◌>>=◌, Reads, natural_at, signed_at, atom_at, many_at, literals_at, weights_at, text_at, passed_at, ended, alone, most, most_counted}

-- ---- rules

-- one atom or none
abbrev pub single : List ℕ → Head
single [] = Never
single (a ∷ atoms) = One a

abbrev pub head_of : ℕ → List ℕ → Head
head_of kind atoms = if kind == 0 then single atoms else Choice atoms

-- so many atoms, as a head of this kind
abbrev pub head_among : ℕ → ℕ → Atoms → List ℕ → Reads Head
head_among kind count known line = do
  atoms ← many_at (λ atom. atom) atom_at count known line
  Ok (head_of kind atoms.0, atoms.1)

unfoldable pub head_at : ℕ → Atoms → List ℕ → Reads Head
head_at used known line = do
  kind ← natural_at 0 1 line
  m ← natural_at 0 most kind.1
  if kind.0 == 0 && nat_lt 1 m.0 then Err (broken fault.Disjunction kind.1) else (if nat_lt most_counted (used + m.0) then Err (broken fault.Counts kind.1) else head_among kind.0 m.0 known m.1)

unfoldable pub body_at : ℕ → Atoms → List ℕ → Reads Body
body_at used known line = do
  kind ← natural_at 0 1 line
  if kind.0 == 0
      then (do
        literals ← literals_at used known kind.1
        Ok (All literals.0, literals.1))
      else (do
        bound ← signed_at kind.1
        items ← weights_at used (pos 0) known bound.1
        Ok (AtLeast bound.0 items.0, items.1))

unfoldable pub rule_at : ℕ → Atoms → List ℕ → Reads Rule
rule_at used known line = do
  head ← head_at used known line
  body ← body_at (used + head_size head.0) (with_atoms known (head_atoms head.0)) head.1
  Ok (record { head = head.0; body = body.0 }, body.1)

-- ---- the other statements

abbrev pub is_among : ℤ → List ℤ → Bool
is_among z zs = list_any (λ y. int_eq y z) zs

-- the numbers that were seen, with one more
abbrev pub with_number : List ℤ → ℤ → List ℤ
with_number seen z = if is_among z seen then seen else seen ++ z ∷ []

-- each number once, in the order of the first ones
abbrev pub different : List ℤ → List ℤ → List ℤ
different seen [] = seen
different seen (z ∷ zs) = different (with_number seen z) zs

abbrev pub priorities : Program → List ℤ
priorities p = different [] (map (λ (m : Minimize). m.priority) p.minimize)

-- a priority that would be the 1,001st different one
abbrev pub is_too_many : ℤ → List ℤ → Bool
is_too_many z seen = not (is_among z seen) && nat_le 1000 (length seen)

unfoldable pub minimize_at : ℕ → List ℤ → Atoms → List ℕ → Reads Minimize
minimize_at used seen known line = do
  priority ← signed_at line
  if is_too_many priority.0 seen then Err (broken fault.Priorities line) else (do
    items ← weights_at used (negsuc most) known priority.1
    Ok (record { priority = priority.0; items = items.0 }, items.1))

unfoldable pub output_at : ℕ → Atoms → List ℕ → Reads Output
output_at used known line = do
  m ← natural_at 0 268435456 line
  text ← text_at m.0 m.1
  condition ← literals_at used known text.1
  Ok (record { text = text.0; condition = condition.0 }, condition.1)

abbrev pub value_of : ℕ → ExternalValue
value_of n = if n == 0 then value.Free else (if n == 1 then value.True else (if n == 2 then value.False else value.Release))

unfoldable pub external_at : Atoms → List ℕ → Reads External
external_at known line = do
  atom ← atom_at known line
  number ← natural_at 0 3 atom.1
  Ok (record { atom = atom.0; value = value_of number.0 }, number.1)

-- a modifier, an atom, a value, a priority and a condition: a hint for a search, which changes no answer
unfoldable pub heuristic_at : List ℕ → Result (List ℕ) FaultAt
heuristic_at line = do
  modifier ← natural_at 0 5 line
  atom ← natural_at 1 most modifier.1
  value ← signed_at atom.1
  priority ← natural_at 0 most value.1
  n ← natural_at 0 most priority.1
  passed_at n.0 n.1

-- ---- lines

-- what follows the first field of a statement of this kind, where so much was counted and these priorities and atoms stood before
unfoldable pub of_kind : ℕ → ℕ → List ℤ → Atoms → List ℕ → Result Statement FaultAt
of_kind kind used seen known line =
    if kind == 0 then alone (say.End, line) else (
    if kind == 1 then (rule_at used known line >>= alone >>= λ r. Ok (say.Rule r)) else (
    if kind == 2 then (minimize_at used seen known line >>= alone >>= λ m. Ok (say.Minimize m)) else (
    if kind == 3 then Err (broken fault.Projection line) else (
    if kind == 4 then (output_at used known line >>= alone >>= λ o. Ok (say.Output o)) else (
    if kind == 5 then (external_at known line >>= alone >>= λ e. Ok (say.External e)) else (
    if kind == 6 then (literals_at used known line >>= alone >>= λ ls. Ok (say.Assume ls)) else (
    if kind == 7 then (heuristic_at line >>= ended >>= λ _. Ok say.Comment) else (
    if kind == 8 then Err (broken fault.Edge line) else (
    if kind == 9 then Err (broken fault.Theory line) else
    Ok say.Comment)))))))))

-- a number from 0 to 10
abbrev pub kind_in : List ℕ → Option ℤ → Result ℕ FaultAt
kind_in line None = Err (broken (fault.Statement (num_of None)) line)
kind_in line (Some (pos n)) = if nat_le n 10 then Ok n else Err (broken (fault.Statement (num_of (Some (pos n)))) line)
kind_in line (Some (negsuc n)) = Err (broken (fault.Statement (num_of (Some (negsuc n)))) line)

abbrev pub kind_at : List ℕ → Reads ℕ
kind_at line = kind_in line (integer_of (field_of line)) >>= λ kind. Ok (kind, after_field line)

unfoldable pub statement_with : ℕ → List ℤ → Atoms → List ℕ → Result Statement FaultAt
statement_with used seen known line = kind_at line >>= λ kind. of_kind kind.0 used seen known kind.1

-- a statement behind this program, whose atoms are known
abbrev pub statement_at : Program → Atoms → List ℕ → Result Statement FaultAt
statement_at so_far known line = statement_with (program_size so_far) (priorities so_far) known line

-- ---- the header

abbrev pub is_number : ℕ → Option ℤ → Bool
is_number n None = false
is_number n (Some (pos k)) = k == n
is_number n (Some (negsuc k)) = false

abbrev pub is_word : List ℕ → List ℕ → Bool
is_word field word = pointwise nat_eq field word

-- the fields of "asp 1 0" and a revision
abbrev pub is_header : List ℕ → List ℕ → List ℕ → List ℕ → Bool
is_header name version minor revision = is_word name (codes "asp") && (is_number 1 (integer_of version) && (is_number 0 (integer_of minor) && is_some (natural_of revision)))

-- no field behind the revision
abbrev pub no_tag : List ℕ → Result (Unit {0}) FaultAt
no_tag line = if length (field_of line) == 0 then Ok tt else (if is_word (field_of line) (codes "incremental") then Err (broken fault.Incremental line) else Err (broken fault.Tag line))

-- those fields, and no tag
unfoldable pub header_at : List ℕ → Result (Unit {0}) FaultAt
header_at line =
    let version = after_field line in
    let minor = after_field version in
    let revision = after_field minor in
    if is_header (field_of line) (field_of version) (field_of minor) (field_of revision) then no_tag (after_field revision) else Err (broken fault.Header line)
