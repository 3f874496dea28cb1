-- A search that is kept over several queries, and what the report of one says.
use Rattle.std.specs.Prelude.{◌≡◌, ℕ, ◌+◌, ◌^◌, ◌<◌, ◌≤◌, Bool, false, List, [], ◌∷◌, length, ℤ, Option, Some, None}
use Rattle.std.specs.List.{list_all}
use Rattle.asp_model.specs.Holding.{atom_of}
use Rattle.asp_model.specs.Models.{atoms_of}
use Rattle.asp_model.specs.Sets.{Atoms, has}
use Rattle.asp_model.specs.declared.program.Program.{Program}
use Rattle.asp_model.specs.declared.results.End.TheVariants.{Finished}
use Rattle.asp_model.specs.declared.results.Mode.TheVariants.{Enum}
use Rattle.asp_core.specs.declared.goal.Goal.TheVariants as goal
use Rattle.asp_core.specs.declared.task.Task.{Task}
use Rattle.asp_core.specs.Boards.{wanted}
use Rattle.asp_core.specs.Sorting.{answers_of, sorted_once}
use Rattle.asp_book.specs.Books.{Booked, board}
use Rattle.asp_search_laws.specs.Searching.{Searching}
use Rattle.asp_unsat.specs.Cores.{IsCore}
use Rattle.asp_crew_laws.specs.declared.report.Report.{Report}
use Rattle.asp_crew_laws.specs.Reports.{IsIdle, IsPlayed, IsWorkedOff}
use Rattle.asp_crew.specs.Running.{QueryStands}

-- It seeks all answers of the program, without a bound.
pub record IsFree (p : Program) (s : Searching) : Type 0 where
  pub program : s.program ≡ p
  pub mode_is : s.mode ≡ Enum
  pub bound : s.bound ≡ None

-- It seeks all answers, has entered no literal, and knows no answer.
pub record IsFresh (p : Program) (s : Searching) : Type 0 where
  pub program : s.program ≡ p
  pub mode_is : s.mode ≡ Enum
  pub cube : s.cube ≡ Some []
  pub known : s.known ≡ []
  pub bound : s.bound ≡ None
  pub learnt : s.learnt < 2 ^ 64

abbrev pub IsFreshIf : Program → Option Searching → Type 0
IsFreshIf p None = Unit {0}
IsFreshIf p (Some s) = IsFresh p s

-- whether the atoms of these literals all stand in the program
abbrev pub all_stand : Program → List ℤ → Bool
all_stand p query = list_all (λ l. has (atoms_of p) (atom_of l)) query

-- what a query asks: all answers that have its literals, with so many units
abbrev pub query_of : Program → List ℤ → ℕ → Task
query_of p query budget = record { program = p; goal = goal.Enum; budget = budget; limit = 0; query = query }

-- The book of a query at which nobody is at work, and a fresh search.
pub record IsBegun (v : Booked) (s : Searching) : Type 0 where
  pub query : QueryStands v.task
  pub asks : v.task ≡ query_of v.task.program v.task.query v.task.budget
  pub fits : v.task.budget < 2 ^ 64
  pub idle : IsIdle (board v)
  pub fresh : IsFresh v.task.program s

-- All leaves are closed, and the units are back. A search that found nothing is fresh still.
pub record IsOver (v w : Booked) (t : Searching) : Type 0 where
  pub task : w.task ≡ v.task
  pub idle : IsIdle (board w)
  pub over : IsWorkedOff (board w) None
  pub fresh : sorted_once (board w).answers ≡ [] → IsFresh v.task.program t

-- Nobody is at work on a query, and all its leaves are closed.
pub record IsWorkedThrough (v : Booked) : Type 0 where
  pub query : QueryStands v.task
  pub asks : v.task ≡ query_of v.task.program v.task.query v.task.budget
  pub idle : IsIdle (board v)
  pub over : IsWorkedOff (board v) None

-- These of the query's literals, and of the program's assumptions, suffice for there being no answer.
pub record IsCoreOf (t : Task) (core : List ℤ) : Type 0 where
  pub is : IsCore t.program (wanted t) core
  pub few : length core ≤ length (wanted t)

-- exactly where no answer was found there is a core
abbrev pub HasCore : Task → List Atoms → Option (List ℤ) → Type 0
HasCore t [] (Some core) = IsCoreOf t core
HasCore t [] None = ⊥
HasCore t (S ∷ A) (Some core) = ⊥
HasCore t (S ∷ A) None = Unit {0}

-- The report of a query that was finished: it has exactly the query's answers, each once, in their order, or where there are none a core.
-- Each unit that was spent was burnt for a conflict of the program, by no more answers than are reported. Its journal is lawful, and
-- leads to all that is told.
pub record IsQueryReport (t : Task) (r : Report) : Type 0 where
  pub end : r.results.end ≡ Finished
  pub mode_is : r.results.mode ≡ Enum
  pub answers : r.results.answers ≡ answers_of t
  pub best : r.results.best ≡ None
  pub untold : r.results.known ≡ None
  pub core : HasCore t r.results.answers r.core
  pub program : r.paid.program ≡ t.program
  pub spent : r.paid.burnt ≡ r.spent
  pub budget : r.paid.left + r.spent ≡ t.budget
  pub reasoned : r.paid.reasoned ≡ false
  pub known : r.paid.known ≤ length r.results.answers
  pub least : r.paid.least ≡ None
  pub played : IsPlayed t r
