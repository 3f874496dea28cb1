-- What is said of a stream at its end.
use Rattle.std.specs.Prelude.{◌≡◌, ℕ, ◌+◌, ◌<◌, ◌^◌, Bool, false, List, ◌++◌, length, Option, None, Some, ℤ}
use Rattle.asp_model.specs.declared.program.Program.{Program}
use Rattle.asp_model.specs.declared.results.End.{End as ResultEnd}
use Rattle.asp_model.specs.declared.results.End.TheVariants as results
use Rattle.asp_model.specs.declared.results.Mode.TheVariants.{Enum}
use Rattle.asp_model.specs.Costs.{just_above}
use Rattle.asp_model.specs.Models.{atoms_of}
use Rattle.asp_model.specs.Sets.{Atoms}
use Rattle.asp_vars.specs.Paid.{Clash, Units}
use Rattle.asp_core.specs.declared.goal.Goal.TheVariants as goal
use Rattle.asp_core.specs.declared.task.Task.{Task}
use Rattle.asp_book.specs.Books.{Booked, board, with_events}
use Rattle.asp_book.specs.Replies.{leased_out}
use Rattle.asp_search_laws.specs.Searching.{Searching}
use Rattle.asp_ledger.specs.Ledgers.{listing}
use Rattle.asp_crew_laws.specs.declared.report.Report.{Report}
use Rattle.asp_crew_laws.specs.Reports.{IsIdle, IsReport}
use Rattle.asp_crew_laws.specs.Runs.{asks}
use Rattle.asp_crew.specs.Twice.{IsSearched}
use Rattle.asp_stream.specs.Leaves.{LeavesPart}
use Rattle.asp_stream.specs.declared.told.End.{End}
use Rattle.asp_stream.specs.declared.told.End.TheVariants as end
use Rattle.asp_stream.specs.declared.told.Told.{Told}

-- all units of the budget, none of them burnt
abbrev pub all_units : Program → ℕ → Units
all_units p budget = record { program = p; left = budget; burnt = 0; reasoned = false; known = 0; least = None }

-- The search may begin: nobody holds a leaf, and all units are in the pool.
pub record IsBegun (v : Booked) : Type 0 where
  pub idle : IsIdle (board v)
  pub pool : (board v).pool ≡ v.task.budget

-- All units went out, of at most 2^64 - 1; all leaves were worked off since then, or the search ended otherwise.
pub record IsOver (v w : Booked) (g : Units) (how : End) : Type 0 where
  pub small : v.task.budget < 2 ^ 64
  pub begun : IsBegun v
  pub search : Searching
  pub left : LeavesPart (with_events v (leased_out 0 (all_units v.task.program v.task.budget))) w search g (Some how)

abbrev pub end_of : End → ResultEnd
end_of end.Finished = results.Finished
end_of (end.Unpaid x) = results.Unfinished
end_of end.Unwanted = results.Unfinished

abbrev pub unpaid_of : End → Option Clash
unpaid_of end.Finished = None
unpaid_of (end.Unpaid x) = Some x
unpaid_of end.Unwanted = None

-- the report of a search that found what was heard and what is left
abbrev pub report_of : List Atoms → Told → Report
report_of heard t = record {
  results = record { mode = Enum; end = end_of t.end; answers = heard ++ t.rest.sets; best = None; known = None };
  journal = t.journal;
  second = None;
  spent = t.paid.burnt;
  leaves = t.leaves;
  log = 0;
  short = false;
  unpaid = unpaid_of t.end;
  paid = t.paid;
  core = None;
}

-- At the end it is reported what was heard and what is left; or no more was wanted.
abbrev pub Tells : Type 0 → Bool → End → Type 0
Tells Reports wants end.Finished = Reports
Tells Reports wants (end.Unpaid x) = Reports
Tells Reports wants end.Unwanted = wants ≡ false

pub record IsTellingBy (p : Program) (budget : ℕ) (Reports : Type 0) (heard : List Atoms) (wants : Bool) (t : Told) : Type 0 where
  pub atoms : t.rest.atoms ≡ atoms_of p
  pub tells : Tells Reports wants t.end
  -- they can be counted, with those that are left
  pub few : length heard + length t.rest.sets + 1 < 2 ^ 64
  -- the units were the program's, and as many as were given
  pub program : t.paid.program ≡ p
  pub units : t.paid.left + t.paid.burnt ≡ budget

-- Where answers were delivered before, some are heard or left.
abbrev pub HasSome : List Atoms → List Atoms → Told → Type 0
HasSome before heard t = 0 < length before → 0 < length heard + length t.rest.sets

-- What was heard and what is left, in this order, are the answers of a report of this search: of a finished one, or of one whose budget
-- is spent.
abbrev pub IsTelling : Task → List Atoms → Bool → Told → Type 0
IsTelling task heard wants t = IsTellingBy task.program task.budget (IsSearched task (report_of heard t)) heard wants t

-- ---- all answers
-- What was heard and what is left, in this order, are the answers of a report of all that was asked: of a finished run, or of one whose
-- budget is spent.
abbrev pub HasReport : Program → ℕ → List Atoms → Told → Type 0
HasReport p budget heard t = IsReport p (asks Enum 0 false) budget (report_of heard t)

abbrev pub IsTellingOf : Program → ℕ → List Atoms → Bool → Told → Type 0
IsTellingOf p budget heard wants t = IsTellingBy p budget (HasReport p budget heard t) heard wants t

-- ---- all answers that cost no more than c
abbrev pub ties : Program → List ℤ → ℕ → Task
ties p c budget = listing p (goal.Ties (just_above c)) budget

abbrev pub IsTellingOfTies : Program → List ℤ → ℕ → List Atoms → Bool → Told → Type 0
IsTellingOfTies p c budget heard wants t = IsTelling (ties p c budget) heard wants t
