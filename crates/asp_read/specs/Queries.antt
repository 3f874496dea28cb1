-- The lines after a program's end, up to a second one: each is a query, and every query has its literals.
use Rattle.std.specs.Prelude.{ℕ, ◌+◌, ◌==◌, Bool, true, false, if◌then◌else◌, nat_le, List, [], ◌∷◌, ◌++◌, length, sum_by, IsTrue, ℤ}
use Rattle.std.specs.List.{AllByRecursion}
use Rattle.std.specs.declared.result.Result.{Result}
use Rattle.std.specs.declared.result.Result.TheVariants.{Ok, Err}
use Rattle.asp_text.specs.Fields.{unblank, field_of, after_field, integer_of, num_of}
use Rattle.asp_model.specs.Sets.{Atoms, with_atoms}
use Rattle.asp_model.specs.Sound.{IsSound}
use Rattle.asp_model.specs.declared.program.Program.{Program}
use Rattle.asp_read.specs.declared.fault.FaultKind.TheVariants as fault
use Rattle.asp_read.specs.declared.fault.ReadError.{ReadError}
use Rattle.asp_read.specs.declared.fault.ReadError.TheVariants.{Refused}
use Rattle.asp_read.specs.declared.error.FaultAt.{FaultAt}
use Rattle.asp_read.specs.declared.reader.Stage.{Stage}
use Rattle.asp_read.specs.declared.reader.Stage.TheVariants.{Start, Within, Ended}
use Rattle.asp_read.specs.declared.series.Series.{Series}
use Rattle.asp_read.specs.declared.statement.Statement.{Statement}
use Rattle.asp_read.specs.declared.statement.Statement.TheVariants as say
use Rattle.asp_read.specs.Fields.{◌>>=◌, literals_at, alone}
use Rattle.asp_read.specs.Judging.{Format, outcome_by}
use Rattle.asp_read.specs.Outcome.{judge_line}
use Rattle.asp_read.specs.Places.{broken, missing}
use Rattle.asp_read.specs.Seen.{Seen, nothing_seen}
use Rattle.asp_read.specs.Sizes.{program_size, statement_atoms}
use Rattle.asp_read.specs.Statements.{is_number}

-- ---- one line

-- the most queries of a text
abbrev pub most_queries : ℕ
most_queries = 10000

-- a query after so many, where so much was counted; the line, and what follows its first field
unfoldable pub query_at : ℕ → ℕ → Atoms → List ℕ → List ℕ → Result Statement FaultAt
query_at count used known line rest =
    if nat_le most_queries count then Err (broken fault.Queries line) else (literals_at used known rest >>= alone >>= λ literals. Ok (say.Assume literals))

-- the second end, a query or a comment
unfoldable pub query_line : ℕ → ℕ → Atoms → List ℕ → Result Statement FaultAt
query_line count used known line =
    if is_number 0 (integer_of (field_of line)) then alone (say.End, after_field line) else (
    if is_number 6 (integer_of (field_of line)) then query_at count used known line (after_field line) else (
    if is_number 10 (integer_of (field_of line)) then Ok say.Comment else
    Err (broken (fault.Query (num_of (integer_of (field_of line)))) line)))

-- ---- the lines one by one

-- what the lines so far said: those of the program, then the queries, and whether the second end stood
pub record Asked : Type 0 where
  pub seen : Seen
  pub queries : List (List ℤ)
  pub ended : Bool

abbrev pub nothing_asked : Asked
nothing_asked = record { seen = nothing_seen; queries = []; ended = false }

-- how many literals the queries have
abbrev pub queries_size : List (List ℤ) → ℕ
queries_size queries = sum_by length queries

-- with one more line of these
abbrev pub asks : Asked → Statement → Asked
asks a say.End = record a { ended = true }
asks a (say.Assume literals) = record a { queries = a.queries ++ literals ∷ [] }
asks a s = a

-- with these atoms, too
abbrev pub knows : Asked → Statement → Asked
knows a s = record a { seen = record a.seen { known = with_atoms a.seen.known (statement_atoms s) } }

-- a line after the program's end
abbrev pub judge_query : Asked → List ℕ → Result Asked FaultAt
judge_query a line =
    if a.ended then Err (broken fault.AfterEnd line)
    else (query_line (length a.queries) (program_size a.seen.program + queries_size a.queries) a.seen.known line >>= λ s. Ok (asks (knows a s) s))

-- a line of the program
abbrev pub judge_program : Asked → List ℕ → Result Asked FaultAt
judge_program a line = judge_line a.seen line >>= λ seen. Ok (record a { seen = seen })

abbrev pub is_ended : Stage → Bool
is_ended Start = false
is_ended Within = false
is_ended Ended = true

-- a line, judged with the lines before it
abbrev pub judge_asked : Asked → List ℕ → Result Asked FaultAt
judge_asked a line =
    if length (unblank line) == 0 then Ok a else (if is_ended a.seen.stage then judge_query a line else judge_program a line)

-- why a text is refused that ends there, as the line with this number
abbrev pub unfinished : ℕ → Stage → ReadError
unfinished number Start = Refused (missing fault.Empty) number
unfinished number Within = Refused (missing fault.NoEnd) number
unfinished number Ended = Refused (missing fault.NoEnd) number

-- the end of the text, as the line with this number
abbrev pub end_of_queries : ℕ → Asked → Result Series ReadError
end_of_queries number a =
    if a.ended then Ok (record { program = a.seen.program; queries = a.queries }) else Err (unfinished number a.seen.stage)

-- aspif with queries, as a format whose lines are judged one by one
abbrev pub asking : Format Asked Series
asking = record { start = nothing_asked; after_line = judge_asked; at_end = end_of_queries }

-- the program and the queries of a text, or its first fault with the number of the line
abbrev pub series_outcome : List ℕ → Result Series ReadError
series_outcome text = outcome_by asking text

-- ---- what a series asks

-- the program whose answers are those that have the query's literals, too
abbrev pub with_query : Program → List ℤ → Program
with_query p query = record p { assumptions = p.assumptions ++ query }

-- The program is within the ranges and limits that the meaning of programs asks for, and is with each query; and there are as few as may be.
pub record IsSoundSeries (s : Series) : Type 0 where
  pub program : IsSound s.program
  pub queries : AllByRecursion (λ query. IsSound (with_query s.program query)) s.queries
  pub few : IsTrue (nat_le (length s.queries) most_queries)
