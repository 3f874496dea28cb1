-- A second search, for all answers that are as good as a best one.
use Rattle.std.specs.Prelude.{◌≡◌, true, Some}
use Rattle.asp_model.specs.declared.program.Program.{Program}
use Rattle.asp_model.specs.declared.results.Ask.{Ask}
use Rattle.asp_model.specs.declared.results.End.TheVariants.{Finished}
use Rattle.asp_model.specs.declared.results.Mode.TheVariants.{Opt}
use Rattle.asp_model.specs.Sets.{Atoms}
use Rattle.asp_model.specs.Costs.{cost}
use Rattle.asp_core.specs.declared.task.Task.{Task}
use Rattle.asp_book.specs.Books.{IsJournalOf}
use Rattle.asp_crew_laws.specs.declared.report.Report.{Report}
use Rattle.asp_crew_laws.specs.Reports.{board_by, IsToldBy}
use Rattle.asp_crew_laws.specs.Runs.{ties_of}

-- The report of one search for this task.
pub record IsSearched (t : Task) (r : Report) : Type 0 where
  pub lawful : IsJournalOf t r.journal
  pub told : IsToldBy (board_by t r) r

-- All optima are asked for, the first search was finished and found a best answer, and this is the report of a second one, with the
-- units that were left.
pub record IsSecond (p : Program) (ask : Ask) (first ties : Report) : Type 0 where
  pub all : ask.all_optima ≡ true
  pub opt : ask.mode ≡ Opt
  pub finished : first.results.end ≡ Finished
  pub best : Atoms
  pub found : first.results.best ≡ Some (best, cost p best)
  pub searched : IsSearched (ties_of p ask (cost p best) first.paid.left) ties
