-- A search that is asked for a query: what holds between its steps, and how they end.
use Rattle.std.specs.Prelude.{◌≡◌, ℕ, ◌^◌, ◌<◌, List, [], Some, None, IsTrue}
use Rattle.asp_model.specs.declared.results.Mode.TheVariants.{Enum}
use Rattle.asp_model.specs.Sets.{Atoms}
use Rattle.asp_vars.specs.Conflicts.{has_all}
use Rattle.asp_vars.specs.Entailment.{HitsOnly}
use Rattle.asp_vars.specs.Literals.{Literal}
use Rattle.asp_vars.specs.Paid.{Units}
use Rattle.asp_core.specs.Boards.{is_excused}
use Rattle.asp_book.specs.Books.{Booked, board}
use Rattle.asp_search_laws.specs.Searching.{Searching}
use Rattle.asp_crew.specs.Running.{IsReady, IsRecorded, LeavesAll, LeavesLeaf, OnlyRecords, work_left}
use Rattle.asp_query.specs.declared.leaf.Left.{Left}
use Rattle.asp_query.specs.declared.leaf.Left.TheVariants as left
use Rattle.asp_query.specs.declared.leaf.Turn.{Turn}
use Rattle.asp_query.specs.declared.leaf.Turn.TheVariants.{Open, Exhausted, Lost}
use Rattle.asp_query.specs.Kept.{IsFree}

-- The search has entered no literal, and goes with the book's board, which has no limit.
pub record IsAsking (v : Booked) (s : Searching) (f : Units) : Type 0 where
  pub ready : IsReady Enum v s f
  pub entered : s.cube ≡ Some []
  pub learnt : s.learnt < 2 ^ 64
  pub unlimited : v.task.limit ≡ 0
  pub unbounded : s.bound ≡ None

-- Each stable model that has these literals is excused.
abbrev pub IsSettledBy : Booked → List Literal → Type 0
IsSettledBy v n = HitsOnly (board v).task.program (is_excused (board v)) n

-- The answer was delivered, or it isn't the query's.
abbrev pub IsDelivered : Booked → Booked → Atoms → Turn → Type 0
IsDelivered v w S Open = OnlyRecords v w × IsRecorded Enum (board v) (board w) S
IsDelivered v w S Exhausted = ⊥
IsDelivered v w S Lost = Unit {0}

-- ---- one step
-- The search goes on, and less is left to do.
pub record GoesOn (v w : Booked) (s t : Searching) (f g : Units) : Type 0 where
  pub asking : IsAsking w t g
  pub only : OnlyRecords v w
  pub less : work_left t g < work_left s f

-- Nothing is left, and nothing was recorded.
pub record IsExhausted (v w : Booked) (t : Searching) (g : Units) : Type 0 where
  pub asking : IsAsking w t g
  pub only : OnlyRecords v w
  pub settled : IsSettledBy w []

abbrev pub Turns : Booked → Booked → Searching → Searching → Units → Units → Turn → Type 0
Turns v w s t f g Open = GoesOn v w s t f g
Turns v w s t f g Exhausted = IsExhausted v w t g
Turns v w s t f g Lost = IsFree v.task.program t

-- ---- all of them
-- The leaf can be closed by these literals.
pub record IsThrough (v w : Booked) (t : Searching) (g : Units) (n : List Literal) : Type 0 where
  pub asking : IsAsking w t g
  pub only : OnlyRecords v w
  pub settled : IsSettledBy w n

abbrev pub Leaves : Booked → Booked → Searching → Units → List Literal → Left → Type 0
Leaves v w t g cube left.Exhausted = IsThrough v w t g []
Leaves v w t g cube (left.Refuted n) = IsThrough v w t g n.items × IsTrue (has_all cube n.items)
Leaves v w t g cube left.Lost = IsFree v.task.program t

-- the leaf is closed
pub record ClosesLeaf (v w : Booked) (leaf : ℕ) (t : Searching) (g : Units) : Type 0 where
  pub asking : IsAsking w t g
  pub leaves : LeavesLeaf Enum v w leaf t g None

-- all leaves are
pub record ClosesAll (v w : Booked) (t : Searching) (g : Units) : Type 0 where
  pub asking : IsAsking w t g
  pub leaves : LeavesAll Enum v w t g None
