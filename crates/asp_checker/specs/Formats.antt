-- The outcome of a program's text in its format.
use Rattle.std.specs.Prelude.{ℕ, List, Result}
use Rattle.asp_model.specs.declared.program.Program.{Program}
use Rattle.asp_read.specs.declared.fault.ReadError.{ReadError}
use Rattle.asp_read.specs.Outcome.{outcome}
use Rattle.asp_smodels.specs.Outcome.{smodels_outcome}
use Rattle.asp_checker.specs.declared.run.Format.{Format}
use Rattle.asp_checker.specs.declared.run.Format.TheVariants.{Aspif, Smodels}

abbrev pub outcome_for : Format → List ℕ → Result Program ReadError
outcome_for Aspif text = outcome text
outcome_for Smodels text = smodels_outcome text
