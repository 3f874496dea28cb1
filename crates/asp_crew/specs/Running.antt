-- One search that works off the leaves of a board by number 0: what holds after each step, and what is left to do.
use Rattle.std.specs.Prelude.{◌≡◌, ◌⊎◌, Bool, true, ℕ, ◌+◌, ◌-◌, ◌*◌, ◌^◌, ◌<◌, not, false, List, [], ◌++◌, filter, length, ℤ, Option, None, Some, IsTrue, MatchBool, nat_lt}
use Rattle.std.specs.List.{AllByRecursion}
use Rattle.std.specs.Option.{IfSome}
use Rattle.asp_model.specs.declared.program.Program.{Program}
use Rattle.asp_model.specs.declared.results.Mode.{Mode}
use Rattle.asp_model.specs.declared.results.Mode.TheVariants.{Enum, Opt, Consequences}
use Rattle.asp_model.specs.declared.results.Ask.{Ask}
use Rattle.asp_model.specs.Sets.{Atoms}
use Rattle.asp_model.specs.Models.{models}
use Rattle.asp_model.specs.Costs.{cost, betters}
use Rattle.asp_vars.specs.Conflicts.{has_all}
use Rattle.asp_vars.specs.Entailment.{is_done, HitsOnly}
use Rattle.asp_vars.specs.Literals.{Literal}
use Rattle.asp_vars.specs.Numbering.{var_count}
use Rattle.asp_vars.specs.Paid.{Clash, Units}
use Rattle.asp_vars.specs.Knowing.{Knowing}
use Rattle.asp_path.specs.declared.status.Status.{Status}
use Rattle.asp_path.specs.declared.status.Status.TheVariants as status
use Rattle.asp_path.specs.Trees.{with_status, held_count, open_from}
use Rattle.asp_core.specs.declared.event.Event.{Event}
use Rattle.asp_core.specs.declared.event.Event.TheVariants as event
use Rattle.asp_core.specs.declared.task.Task.{Task}
use Rattle.asp_core.specs.Units.{out_of}
use Rattle.asp_core.specs.Boards.{Board, IsQuery, is_enough, is_excused, known_of, lists, optimises}
use Rattle.asp_core.specs.Events.{Guard, happens, maker}
use Rattle.asp_core.specs.Invariant.{IsCube}
use Rattle.asp_book.specs.Books.{Booked, board}
use Rattle.asp_search.specs.Beside.{Adopts, count_unshown, left_to_show}
use Rattle.asp_search_laws.specs.Searching.{Searching, used}
use Rattle.asp_crew_laws.specs.Runs.{task_of}
use Rattle.asp_crew_laws.specs.Reports.{IsIdle, IsMet, IsUnpaidAt, IsWorkedOff}
use Rattle.asp_crew_laws.specs.Working.{IsAtWork}
use Rattle.asp_crew.specs.declared.leaf.Course.{Course}
use Rattle.asp_crew.specs.declared.leaf.Course.TheVariants.{Open, Closed, Unpaid}
use Rattle.asp_crew.specs.declared.leaf.Left.{Left}
use Rattle.asp_crew.specs.declared.leaf.Left.TheVariants as left

-- how many stable models are neither used up nor too dear
abbrev pub unfound : Program → List Atoms → Option (List ℤ) → ℕ
unfound p gone bound = length (filter (λ S. not (is_done p gone bound S)) (models p))

-- Units, models not yet found of so many models, nogoods learnt since the last restart, and entries that have room yet: a step
-- lowers the first of them that it changes, and so this number. (A trail has no more entries than variables and one.)
abbrev pub work : ℕ → ℕ → ℕ → ℕ → ℕ → ℕ → ℕ
work units models unseen learnt vars entries = ((units * (models + 1) + unseen) * 2 ^ 64 + learnt) * (vars + 1) + (vars - entries)

abbrev pub work_left : Searching → Units → ℕ
work_left s f = work f.left (length (models s.program)) (unfound s.program (used s) s.bound) s.learnt (var_count s.program + 1) (length s.entries)

-- The task is that of the first search of a run which is asked for this.
abbrev pub IsRunFor : Ask → Task → Type 0
IsRunFor ask t = t ≡ task_of t.program ask t.budget

-- The query's atoms stand in the program.
abbrev pub QueryStands : Task → Type 0
QueryStands t = IsQuery t.program t.query

-- Number 0's search and its units go with the book's board.
pub record IsReady (mode : Mode) (v : Booked) (s : Searching) (f : Units) : Type 0 where
  pub task : QueryStands v.task
  pub program : s.program ≡ v.task.program
  pub mode_is : s.mode ≡ mode
  pub work : IsAtWork (board v) 0 mode s.known s.bound f

-- A path is entered whose literals begin with those that each answer meets.
abbrev pub IsEntered : Task → Option (List Literal) → Type 0
IsEntered t None = ⊥
IsEntered t (Some q) = IsCube t q

-- and the search is on a path
pub record IsUnderway (mode : Mode) (v : Booked) (s : Searching) (f : Units) : Type 0 where
  pub ready : IsReady mode v s f
  pub entered : IsEntered v.task s.cube
  pub learnt : s.learnt < 2 ^ 64

-- Number 0 added events to the journal, and nobody else did.
pub record Adds (v w : Booked) : Type 0 where
  pub more : List Event
  pub journal : w.journal ≡ v.journal ++ more
  pub main : AllByRecursion (λ e. maker e ≡ 0) more

-- What was recorded has changed at most.
pub record OnlyRecords (v w : Booked) : Type 0 where
  pub task : w.task ≡ v.task
  pub adds : Adds v w
  pub nodes : (board w).nodes ≡ (board v).nodes
  pub out : (board w).out ≡ (board v).out
  pub pool : (board w).pool ≡ (board v).pool

-- The set costs no less than a best that stands.
pub record IsUnbettered (b : Board) (S : Atoms) : Type 0 where
  pub best : Atoms
  pub stands : b.best ≡ Some best
  pub dearer : betters (cost b.task.program S) (cost b.task.program best) ≡ false

-- The answer may be delivered; or a best one is kept.
abbrev pub MayRecord : Mode → Task → Atoms → Type 0
MayRecord Enum t S = IsTrue (lists t S)
MayRecord Opt t S = IsTrue (optimises t.goal)
MayRecord (Consequences r) t S = IsTrue (lists t S)

-- The answer was delivered; or it is the best, if none stood that it doesn't better.
abbrev pub IsRecorded : Mode → Board → Board → Atoms → Type 0
IsRecorded Enum b c S = Guard b (event.Deliver 0 S) × (c ≡ happens b (event.Deliver 0 S))
IsRecorded (Consequences r) b c S = Guard b (event.Deliver 0 S) × (c ≡ happens b (event.Deliver 0 S))
IsRecorded Opt b c S = (Guard b (event.Improve 0 S) × (c ≡ happens b (event.Improve 0 S))) ⊎ ((c ≡ b) × IsUnbettered b S)

-- ---- what was delivered is taken over
-- Whether there are answers that leave fewer atoms to be shown than a search has to show. Any number is fewer where it knows no answer.
abbrev pub is_fewer : Option ℕ → Option ℕ → Bool
is_fewer None left = false
is_fewer (Some n) None = true
is_fewer (Some n) (Some left) = nat_lt n left

-- What these answers have in common is taken over, exactly where they leave fewer atoms to be shown than those that the search knows.
abbrev pub TakesKnown : Searching → Searching → Knowing → Type 0
TakesKnown s t k = MatchBool (is_fewer (count_unshown k.reasoning k.program k.sets) (left_to_show s)) (Adopts s t k.sets) (t ≡ s)

-- the same of what a book tells, where consequences are sought
abbrev pub TakesOver : Option Knowing → Searching → Searching → Type 0
TakesOver None s t = t ≡ s
TakesOver (Some k) s t = TakesKnown s t k

-- It is, where the search had found no answer before.
abbrev pub TakesFirst : Option ℕ → Option Knowing → Searching → Searching → Type 0
TakesFirst None o s t = TakesOver o s t
TakesFirst (Some left) o s t = t ≡ s

-- Those answers don't leave fewer atoms to be shown than the search has to show.
abbrev pub ShowsAll : Option Knowing → Searching → Type 0
ShowsAll None s = Unit {0}
ShowsAll (Some k) s = is_fewer (count_unshown k.reasoning k.program k.sets) (left_to_show s) ≡ false

-- ---- one step
-- The path has all of these literals, and each stable model that has them is excused.
abbrev pub IsClosing : Board → Searching → List Literal → Type 0
IsClosing b s n = (q : List Literal) → s.cube ≡ Some q → IsTrue (has_all q n) × HitsOnly b.task.program (is_excused b) n

-- A conflict was met below the path when no unit was left, and more answers are wanted.
abbrev pub IsStopped : Board → Searching → Units → Clash → Type 0
IsStopped b s f x = (is_enough b ≡ false) × (f.left ≡ 0) × (s.cube ≡ Some x.cube) × IsMet b x

-- what is known of the way in which a step left the path
abbrev pub IsCourse : Board → Searching → Searching → Units → Units → Course → Type 0
IsCourse b s t f g Open = work_left t g < work_left s f
IsCourse b s t f g (Closed n) = (is_enough b ≡ false) × IsClosing b s n.lits
IsCourse b s t f g (Unpaid x) = IsStopped b s g x

-- one step on a path
pub record Goes (mode : Mode) (v w : Booked) (s t : Searching) (f g : Units) (how : Course) : Type 0 where
  pub underway : IsUnderway mode w t g
  pub only : OnlyRecords v w
  pub cube : t.cube ≡ s.cube
  pub course : IsCourse (board w) s t f g how
  -- After the first answer the search shows all that was delivered.
  pub shown : left_to_show s ≡ None → (t.known ≡ s.known) ⊎ ShowsAll (known_of (board w)) t

-- how the steps on a path ended
abbrev pub IsOver : Board → Searching → Units → Left → Type 0
IsOver b s f left.Enough = is_enough b ≡ true
IsOver b s f (left.Closed n) = (is_enough b ≡ false) × IsClosing b s n.lits
IsOver b s f (left.Unpaid x) = IsStopped b s f x

pub record Ends (mode : Mode) (v w : Booked) (s t : Searching) (g : Units) (how : Left) : Type 0 where
  pub ready : IsReady mode w t g
  pub only : OnlyRecords v w
  pub over : IsOver (board w) s g how

-- what a leaf is when it was worked on: open again where it was enough, or a conflict was met when no unit was left
abbrev pub status_after : Option Clash → Bool → Status
status_after None false = status.Closed
status_after None true = status.Open
status_after (Some x) enough = status.Open

-- what is left of one leaf that number 0 held
pub record LeavesLeaf (mode : Mode) (v w : Booked) (leaf : ℕ) (t : Searching) (g : Units) (unpaid : Option Clash) : Type 0 where
  pub ready : IsReady mode w t g
  pub task : w.task ≡ v.task
  pub adds : Adds v w
  pub nodes : (board w).nodes ≡ with_status (board v).nodes leaf (status_after unpaid (is_enough (board w)))
  pub out : (board w).out ≡ (board v).out
  pub pool : (board w).pool ≡ (board v).pool
  pub stopped : IfSome unpaid (λ x. (is_enough (board w) ≡ false) × (g.left ≡ 0) × IsUnpaidAt (board w) x leaf)

-- Number 0 alone has units, and no leaf is held.
pub record IsAlone (b : Board) : Type 0 where
  pub free : held_count b.nodes ≡ 0
  pub home : (s : ℕ) → (s ≡ 0 → ⊥) → out_of b.out s ≡ 0

-- it is enough, or no leaf is open; or a conflict was met below an open leaf when no unit was left
abbrev pub IsThrough : Board → Units → Option Clash → Type 0
IsThrough b f None = (is_enough b ≡ false) → open_from 0 b.nodes ≡ []
IsThrough b f (Some x) = (is_enough b ≡ false) × (f.left ≡ 0) × ((leaf : ℕ) × IsUnpaidAt b x leaf)

pub record LeavesAll (mode : Mode) (v w : Booked) (t : Searching) (g : Units) (unpaid : Option Clash) : Type 0 where
  pub ready : IsReady mode w t g
  pub alone : IsAlone (board w)
  pub task : w.task ≡ v.task
  pub adds : Adds v w
  pub pool : (board w).pool ≡ (board v).pool
  pub through : IsThrough (board w) g unpaid

-- all that was open is worked off, unless it is enough
pub record Finishes (v w : Booked) (unpaid : Option Clash) : Type 0 where
  pub task : w.task ≡ v.task
  pub adds : Adds v w
  pub idle : IsIdle (board w)
  pub over : IsWorkedOff (board w) unpaid
