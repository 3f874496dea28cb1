-- Answers that are written in parts.
use Rattle.std.specs.Prelude.{ℕ, List, ◌++◌, codes, decimal}
use Rattle.std.specs.Option.{IfSome}
use Rattle.asp_model.specs.declared.program.Program.{Program}
use Rattle.asp_model.specs.declared.results.End.{End}
use Rattle.asp_model.specs.declared.results.Mode.{Mode}
use Rattle.asp_model.specs.declared.results.Mode.TheVariants.{Enum}
use Rattle.asp_model.specs.Sets.{Atoms}
use Rattle.asp_model.specs.Texts.{count_mark, ended_line, verdict}
use Rattle.asp_print.specs.declared.in_parts.PartPrinter.{PartPrinter}
use Rattle.asp_print.specs.Rows.{IsTableBy}

-- The printer is for the program's answers, which are among these atoms.
abbrev pub IsPrinterOf : Program → Atoms → PartPrinter → Type 0
IsPrinterOf p atoms printer = IfSome printer.table (IsTableBy 32 atoms p.outputs)

-- the word line and the count line of results that list so many answers
abbrev pub closing_of : Mode → End → ℕ → List ℕ
closing_of mode end count = ended_line (verdict end mode count) ++ ended_line (codes "Models: " ++ decimal count ++ count_mark end)

-- the lines after the last of so many answers of an enumeration
abbrev pub closing : End → ℕ → List ℕ
closing end count = closing_of Enum end count
