-- One part after another: how a search left a leaf, and what is left of all.
use Rattle.std.specs.Prelude.{◌≡◌, ℕ, ◌+◌, ◌-◌, ◌<◌, List, [], length, Option, None, Some}
use Rattle.asp_model.specs.Sets.{Atoms}
use Rattle.asp_model.specs.declared.results.Mode.TheVariants.{Enum}
use Rattle.asp_vars.specs.Paid.{Units}
use Rattle.asp_path.specs.Trees.{cube_of, held_count, open_from}
use Rattle.asp_core.specs.Boards.{Board}
use Rattle.asp_book.specs.Books.{Booked, board}
use Rattle.asp_search.specs.Beside.{IsOpen}
use Rattle.asp_search_laws.specs.Searching.{Searching}
use Rattle.asp_crew_laws.specs.Reports.{IsUnpaidAt}
use Rattle.asp_crew.specs.Running.{Adds, IsAlone, IsClosing, IsReady, IsStopped, IsUnderway, OnlyRecords, work_left}
use Rattle.asp_stream.specs.declared.leaf.Course.{Course}
use Rattle.asp_stream.specs.declared.leaf.Course.TheVariants as course
use Rattle.asp_stream.specs.declared.leaf.Left.{Left}
use Rattle.asp_stream.specs.declared.leaf.Left.TheVariants as left
use Rattle.asp_stream.specs.declared.part.Part.{Part}
use Rattle.asp_stream.specs.declared.stream.Stream.{Stream}
use Rattle.asp_stream.specs.declared.told.End.{End}
use Rattle.asp_stream.specs.declared.told.End.TheVariants as end
use Rattle.asp_backlog.specs.Telling.{IsTold}
use Rattle.asp_stream.specs.Streams.{IsStreamOf, leaves_of}

-- what is known of the way in which a step left the path
abbrev pub IsCourse : Board → Searching → Searching → Units → Units → Course → Type 0
IsCourse b s t f g course.Open = work_left t g < work_left s f
IsCourse b s t f g (course.Closed n) = IsClosing b s n.lits
IsCourse b s t f g (course.Unpaid x) = IsStopped b s g x

-- one step on a path
pub record GoesOn (v w : Booked) (s t : Searching) (f g : Units) (how : Course) : Type 0 where
  pub underway : IsUnderway Enum w t g
  pub only : OnlyRecords v w
  pub cube : t.cube ≡ s.cube
  pub course : IsCourse (board w) s t f g how

-- what is known of the way in which a search left the leaf
abbrev pub IsLeft : Booked → ℕ → Searching → Units → Left → Type 0
IsLeft w leaf s g (left.Closed n) = IsClosing (board w) s n.lits
IsLeft w leaf s g (left.Unpaid x) = IsStopped (board w) s g x
IsLeft w leaf s g (left.Crowded lit) = (length (board w).nodes < 4194304) × IsOpen w.task.program (cube_of (board w).nodes leaf) lit
IsLeft w leaf s g left.Unwanted = Unit {0}

pub record EndsLeaf (v w : Booked) (leaf : ℕ) (s t : Searching) (g : Units) (how : Left) : Type 0 where
  pub ready : IsReady Enum w t g
  pub only : OnlyRecords v w
  pub cube : t.cube ≡ s.cube
  pub over : IsLeft w leaf s g how

-- a conflict was met below an open leaf when no unit was left
abbrev pub IsEnd : Board → Units → End → Type 0
IsEnd b g end.Finished = open_from 0 b.nodes ≡ []
IsEnd b g (end.Unpaid x) = (g.left ≡ 0) × ((leaf : ℕ) × IsUnpaidAt b x leaf)
IsEnd b g end.Unwanted = Unit {0}

abbrev pub IsEndIf : Board → Units → Option End → Type 0
IsEndIf b g None = Unit {0}
IsEndIf b g (Some e) = IsEnd b g e

-- what is left after a part, or after all
pub record LeavesPart (v w : Booked) (t : Searching) (g : Units) (how : Option End) : Type 0 where
  pub ready : IsReady Enum w t g
  pub alone : IsAlone (board w)
  pub task : w.task ≡ v.task
  pub adds : Adds v w
  pub pool : (board w).pool ≡ (board v).pool
  pub out : (board w).out ≡ (board v).out
  pub over : IsEndIf (board w) g how

-- how many parts may still be worked on: a split makes two nodes, and a part more than it takes
abbrev pub parts_left : Booked → List Part → ℕ
parts_left v parts = (4194306 - length (board v).nodes) + length parts

-- At the end what was told and what waits go with the board still; where leaves are left, each that isn't closed is a part's.
pub record IsStreamAtEnd (s : Stream) (heard : List Atoms) : Type 0 where
  pub program : s.ledger.task.program ≡ s.compiled.now
  pub told : IsTold (board s.ledger) heard s.backlog
  pub counted : s.heard ≡ length heard

abbrev pub IsStreamAfter : Stream → List Atoms → List Atoms → Option End → Type 0
IsStreamAfter s all heard None = IsStreamOf s all heard (leaves_of s.parts.items)
IsStreamAfter s all heard (Some e) = IsStreamAtEnd s heard

-- what is left of a leaf that was held
pub record LeavesHeld (v w : Booked) (leaf : ℕ) (t : Searching) (g : Units) (how : Option End) : Type 0 where
  pub ready : IsReady Enum w t g
  pub task : w.task ≡ v.task
  pub adds : Adds v w
  pub pool : (board w).pool ≡ (board v).pool
  pub out : (board w).out ≡ (board v).out
  pub free : held_count (board w).nodes + 1 ≡ held_count (board v).nodes
  pub over : IsEndIf (board w) g how
