-- The outcome of a text in the format that was asked for.
use Rattle.std.specs.Prelude.{ℕ, List}
use Rattle.std.specs.declared.option.Option.{Option}
use Rattle.std.specs.declared.result.Result.{Result}
use Rattle.asp_model.specs.declared.program.Program.{Program}
use Rattle.asp_read.specs.declared.fault.ReadError.{ReadError}
use Rattle.asp_read.specs.Outcome.{aspif, outcome}
use Rattle.asp_read.specs.Stream.{StopsBy}
use Rattle.asp_smodels.specs.Outcome.{smodels, smodels_outcome}
use Rattle.asp_cli.specs.declared.Format.{Format}
use Rattle.asp_cli.specs.declared.Format.TheVariants.{Aspif, Smodels}

-- the program that a text says in this format, or why it is refused
abbrev pub outcome_for : Format → List ℕ → Result Program ReadError
outcome_for Aspif text = outcome text
outcome_for Smodels text = smodels_outcome text

-- where reading stopped
abbrev pub StopsFor : Format → ℕ → Option (List ℕ) → Option (List ℕ) → Result Program ReadError → Type 0
StopsFor Aspif limit initial now result = StopsBy aspif limit initial now result
StopsFor Smodels limit initial now result = StopsBy smodels limit initial now result
