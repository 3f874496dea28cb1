-- Texts of worked rows.
use Rattle.std.specs.Prelude.{ℕ, ℤ, List, [], ◌∷◌, ◌++◌, codes}
use Rattle.asp_model.specs.declared.program.Rule.{Rule}
use Rattle.asp_model.specs.declared.program.Program.{Program}
use Rattle.std.specs.declared.result.Result.{Result}
use Rattle.std.specs.declared.result.Result.TheVariants.{Err, Ok}
use Rattle.asp_read.specs.declared.fault.FaultKind.{FaultKind}
use Rattle.asp_read.specs.declared.fault.ReadError.{ReadError}
use Rattle.asp_read.specs.declared.fault.ReadError.TheVariants.{Refused}
use Rattle.asp_read.specs.declared.series.Series.{Series}
use Rattle.asp_read.specs.Sizes.{empty_program}

-- this line after a header and before the end
abbrev pub after_header : List ℕ → List ℕ
after_header line = codes "asp 1 0 0\n" ++ line ++ codes "\n0\n"

abbrev pub rule_program : Rule → Program
rule_program r = record empty_program { rules = r ∷ [] }

-- refused in this line, at this field
abbrev pub refused : ℕ → ℕ → FaultKind → Result Program ReadError
refused line field kind = Err (Refused (record { kind = kind; field = field }) line)

-- the same of a text with queries
abbrev pub refused_series : ℕ → ℕ → FaultKind → Result Series ReadError
refused_series line field kind = Err (Refused (record { kind = kind; field = field }) line)

-- no statements, and these queries
abbrev pub asks_nothing_of : List (List ℤ) → Result Series ReadError
asks_nothing_of queries = Ok (record { program = empty_program; queries = queries })
