-- A text whose lines are judged one by one, each with those before it: what it says, or its first fault with the number of the line.
use Rattle.std.specs.Prelude.{ℕ, ◌+◌, if◌then◌else◌, nat_le, List, [], ◌∷◌, length, take}
use Rattle.std.specs.declared.result.Result.{Result}
use Rattle.std.specs.declared.result.Result.TheVariants.{Ok, Err}
use Rattle.asp_text.specs.Lines.{lines_of, whole}
use Rattle.asp_read.specs.declared.fault.Fault.{Fault}
use Rattle.asp_read.specs.declared.error.FaultAt.{FaultAt}
use Rattle.asp_read.specs.Places.{told_of}
use Rattle.asp_read.specs.declared.fault.ReadError.{ReadError}
use Rattle.asp_read.specs.declared.fault.ReadError.TheVariants.{TooLong, Refused}
use Rattle.asp_read.specs.Fields.{◌>>=◌}

-- what a format says of lines, by what those before them said
pub record Format (S A : Type 0) : Type 0 where
  -- before the first line
  pub start : S
  -- after one more line
  pub after_line : S → List ℕ → Result S FaultAt
  -- the end of the text, as the line with this number
  pub at_end : ℕ → S → Result A ReadError

-- a line, with the number of the field where the fault is
abbrev pub judge_by : {S A : Type 0} → Format S A → S → List ℕ → Result S Fault
judge_by format seen line = told_of line (format.after_line seen line)

-- the lines in their order, the first of them with this number
abbrev pub judge_next : {S A : Type 0} → ℕ → Result S Fault → (S → Result A ReadError) → Result A ReadError
judge_next number (Ok seen) go_on = go_on seen
judge_next number (Err f) go_on = Err (Refused f number)

unfoldable pub judge_all : {S A : Type 0} → Format S A → ℕ → S → List (List ℕ) → Result S ReadError
judge_all format number seen [] = Ok seen
judge_all format number seen (line ∷ lines) = judge_next number (judge_by format seen line) (λ s. judge_all format (number + 1) s lines)

abbrev pub most_bytes : ℕ
most_bytes = 268435456

-- the outcome of a text after so many lines, which said this; more than so many bytes are too many
unfoldable pub outcome_from : {S A : Type 0} → Format S A → ℕ → ℕ → S → List ℕ → Result A ReadError
outcome_from format room number seen text =
    if nat_le (length text) room
    then (judge_all format (number + 1) seen (lines_of text) >>= λ end. format.at_end (number + length (lines_of text) + 1) end)
    else (judge_all format (number + 1) seen (lines_of (whole (take room text))) >>= λ _. Err TooLong)

-- the outcome of a text in a format
abbrev pub outcome_by : {S A : Type 0} → Format S A → List ℕ → Result A ReadError
outcome_by format text = outcome_from format most_bytes 0 format.start text
