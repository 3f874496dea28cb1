-- The outcome of a smodels text: its program, or its first fault with the number of the line.
use Rattle.std.specs.Prelude.{ℕ, ◌==◌, true, false, if◌then◌else◌, List, length, codes}
use Rattle.std.specs.declared.result.Result.{Result}
use Rattle.std.specs.declared.result.Result.TheVariants.{Ok, Err}
use Rattle.asp_text.specs.Fields.{unblank}
use Rattle.asp_model.specs.declared.program.Program.{Program}
use Rattle.asp_model.specs.Sets.{Atoms, with_atoms}
use Rattle.asp_read.specs.Adding.{adds}
use Rattle.asp_read.specs.Sizes.{program_size, statement_atoms}
use Rattle.asp_read.specs.declared.fault.FaultKind.TheVariants as fault
use Rattle.asp_read.specs.declared.error.FaultAt.{FaultAt}
use Rattle.asp_read.specs.declared.fault.ReadError.{ReadError}
use Rattle.asp_read.specs.declared.fault.ReadError.TheVariants.{Refused}
use Rattle.asp_read.specs.declared.statement.Statement.{Statement}
use Rattle.asp_read.specs.declared.statement.Statement.TheVariants as say
use Rattle.asp_read.specs.Places.{broken, missing}
use Rattle.asp_read.specs.Fields.{◌>>=◌}
use Rattle.asp_read.specs.Judging.{Format, outcome_by}
use Rattle.asp_smodels.specs.declared.reader.Stage.{Stage}
use Rattle.asp_smodels.specs.declared.reader.Stage.TheVariants.{Rules, Symbols, PlusWord, Plus, MinusWord, Minus, Number, Ended}
use Rattle.asp_smodels.specs.Seen.{Seen, nothing_seen}
use Rattle.asp_smodels.specs.Lines.{rule_line, symbol_line, word_line, assumed_line, number_line}

-- what follows the end of a part
abbrev pub next_stage : Stage → Stage
next_stage Rules = Symbols
next_stage Symbols = PlusWord
next_stage PlusWord = Plus
next_stage Plus = MinusWord
next_stage MinusWord = Minus
next_stage Minus = Number
next_stage Number = Ended
next_stage Ended = Ended

abbrev pub stage_after : Stage → Statement → Stage
stage_after stage say.End = next_stage stage
stage_after stage s = stage

-- what a line says, after so many minimize statements, where so much was counted and these atoms stood before
abbrev pub line_of : Stage → ℕ → ℕ → Atoms → List ℕ → Result Statement FaultAt
line_of Rules number used known line = rule_line number used known line
line_of Symbols number used known line = symbol_line used known line
line_of PlusWord number used known line = word_line (codes "B+") line
line_of Plus number used known line = assumed_line false used known line
line_of MinusWord number used known line = word_line (codes "B-") line
line_of Minus number used known line = assumed_line true used known line
line_of Number number used known line = number_line line
line_of Ended number used known line = Err (broken fault.AfterEnd line)

-- a line, judged with the lines before it
abbrev pub judge_line : Seen → List ℕ → Result Seen FaultAt
judge_line seen line =
    if length (unblank line) == 0
    then Ok seen
    else (line_of seen.stage (length seen.program.minimize) (program_size seen.program) seen.known line
    >>= λ s. Ok (record { stage = stage_after seen.stage s; program = adds seen.program s; known = with_atoms seen.known (statement_atoms s) }))

-- the end of the text, as the line with this number
abbrev pub at_end : ℕ → Stage → Program → Result Program ReadError
at_end number Ended p = Ok p
at_end number stage p = Err (Refused (missing fault.NoEnd) number)

-- smodels, as a format whose lines are judged one by one
abbrev pub smodels : Format Seen Program
smodels = record { start = nothing_seen; after_line = judge_line; at_end = λ number seen. at_end number seen.stage seen.program }

abbrev pub smodels_outcome : List ℕ → Result Program ReadError
smodels_outcome text = outcome_by smodels text
