-- The outcome of an aspif text: its program, or its first fault with the number of the line.
use Rattle.std.specs.Prelude.{ℕ, ◌==◌, if◌then◌else◌, List, length}
use Rattle.std.specs.declared.result.Result.{Result}
use Rattle.std.specs.declared.result.Result.TheVariants.{Ok, Err}
use Rattle.asp_text.specs.Fields.{unblank}
use Rattle.asp_model.specs.declared.program.Program.{Program}
use Rattle.asp_model.specs.Sets.{Atoms, with_atoms}
use Rattle.asp_read.specs.Sizes.{statement_atoms}
use Rattle.asp_read.specs.declared.fault.FaultKind.TheVariants.{Empty, NoEnd, AfterEnd}
use Rattle.asp_read.specs.declared.error.FaultAt.{FaultAt}
use Rattle.asp_read.specs.Places.{broken, missing}
use Rattle.asp_read.specs.declared.fault.ReadError.{ReadError}
use Rattle.asp_read.specs.declared.fault.ReadError.TheVariants.{Refused}
use Rattle.asp_read.specs.declared.statement.Statement.{Statement}
use Rattle.asp_read.specs.declared.statement.Statement.TheVariants as say
use Rattle.asp_read.specs.declared.reader.Stage.{Stage}
use Rattle.asp_read.specs.declared.reader.Stage.TheVariants.{Start, Within, Ended}
use Rattle.asp_read.specs.Seen.{Seen, nothing_seen}
pub use Rattle.asp_read.specs.Adding.{adds}
use Rattle.asp_read.specs.Fields.{◌>>=◌}
use Rattle.asp_read.specs.Judging.{Format, outcome_by}
pub use Rattle.asp_read.specs.Judging.{most_bytes}
use Rattle.asp_read.specs.Statements.{header_at, statement_at}

abbrev pub stage_after : Statement → Stage
stage_after say.End = Ended
stage_after s = Within

-- a line, judged with the lines before it
abbrev pub judge_filled : Stage → Program → Atoms → List ℕ → Result Seen FaultAt
judge_filled Start p known line = header_at line >>= λ _. Ok (record { stage = Within; program = p; known = known })
judge_filled Within p known line = statement_at p known line >>= λ s. Ok (record { stage = stage_after s; program = adds p s; known = with_atoms known (statement_atoms s) })
judge_filled Ended p known line = Err (broken AfterEnd line)

abbrev pub judge_line : Seen → List ℕ → Result Seen FaultAt
judge_line seen line = if length (unblank line) == 0 then Ok seen else judge_filled seen.stage seen.program seen.known line

-- the end of the text, as the line with this number
abbrev pub at_end : ℕ → Stage → Program → Result Program ReadError
at_end number Start p = Err (Refused (missing Empty) number)
at_end number Within p = Err (Refused (missing NoEnd) number)
at_end number Ended p = Ok p

-- aspif, as a format whose lines are judged one by one
abbrev pub aspif : Format Seen Program
aspif = record { start = nothing_seen; after_line = judge_line; at_end = λ number seen. at_end number seen.stage seen.program }

abbrev pub outcome : List ℕ → Result Program ReadError
outcome text = outcome_by aspif text
