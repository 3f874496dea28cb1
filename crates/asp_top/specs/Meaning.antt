-- Which status results have.
use Rattle.std.specs.Prelude.{Bool, true, false}
use Rattle.asp_model.specs.declared.results.End.{End}
use Rattle.asp_model.specs.declared.results.End.TheVariants.{Finished, Limited, Unfinished}
use Rattle.asp_top.specs.declared.status.Status.{Status}
use Rattle.asp_top.specs.declared.status.Status.TheVariants.{All, NoModel, Partial, Unknown, Enough}

-- a status that tells how the run ended, and whether it has a model
abbrev pub status_for : End → Bool → Status
status_for Finished true = All
status_for Finished false = NoModel
status_for Limited model = Enough
status_for Unfinished true = Partial
status_for Unfinished false = Unknown
