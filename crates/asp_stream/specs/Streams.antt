-- What a stream is between two steps: what was told, what waits, where the floor is, and which leaves wait to be worked on.
use Rattle.std.specs.Prelude.{◌≡◌, ℕ, ◌+◌, ◌<◌, false, List, [], ◌∷◌, ◌++◌, length, map, Some, IsTrue}
use Rattle.std.specs.List.{AllByRecursion}
use mathlib.Core.List.{IsPrefix}
use Rattle.asp_model.specs.declared.program.Program.{Program}
use Rattle.asp_model.specs.declared.results.Mode.TheVariants.{Enum}
use Rattle.asp_model.specs.Models.{atoms_of}
use Rattle.asp_model.specs.Sets.{Atoms, has}
use Rattle.asp_vars.specs.Literals.{Literal}
use Rattle.asp_rows.specs.declared.row.Row.{Row}
use Rattle.asp_rows.specs.Listed.{IsRowOf}
use Rattle.asp_path.specs.Trees.{cube_of, is_unclosed, status_of}
use Rattle.asp_core.specs.declared.event.Event.TheVariants as event
use Rattle.asp_core.specs.Boards.{Board}
use Rattle.asp_book.specs.Books.{Booked, board, with_events}
use Rattle.asp_search.specs.Beside.{IsOpen}
use Rattle.asp_search_laws.specs.Searching.{Searching}
use Rattle.asp_crew_laws.specs.Agrees.{Agrees}
use Rattle.asp_core.specs.declared.goal.Goal.{Goal}
use Rattle.asp_watermark.specs.Floors.{IsLow, is_below, listed}
use Rattle.asp_backlog.specs.Backlogs.{Pending}
use Rattle.asp_backlog.specs.Telling.{IsTold}
use Rattle.asp_ledger.specs.Ledgers.{listing}
use Rattle.asp_stream.specs.declared.part.Part.{Part}
use Rattle.asp_stream.specs.declared.stream.Stream.{Stream}
use Rattle.asp_stream.specs.declared.stream.View.{View}
use Rattle.asp_stream.specs.declared.stream.View.TheVariants as view

-- The part's leaf stands in the tree, and its low is a low of the leaf, with a row of its own.
pub record IsPart (b : Board) (p : Part) : Type 0 where
  pub within : p.leaf < length b.nodes
  pub low : IsLow b p.leaf p.low.set
  pub row : IsRowOf (atoms_of b.task.program) p.low

abbrev pub leaves_of : List Part → List ℕ
leaves_of parts = map (λ (p : Part). p.leaf) parts

-- Each leaf that isn't closed is one of these.
abbrev pub Covers : Board → List ℕ → Type 0
Covers b leaves = (leaf : ℕ) → IsTrue (is_unclosed (status_of b.nodes leaf)) → IsTrue (has leaves leaf)

-- A stream of these of the program's answers, all that the goal lists, whose leaves that aren't closed are among these. So many were
-- heard.
pub record IsStream (p : Program) (v : Booked) (count : ℕ) (all heard : List Atoms) (w : Pending) (parts : List Part) (leaves : List ℕ) : Type 0 where
  pub program : v.task.program ≡ p
  pub all_are : all ≡ listed v.task
  pub counted : count ≡ length heard
  pub told : IsTold (board v) heard w
  pub parts_are : AllByRecursion (IsPart (board v)) parts
  pub covers : Covers (board v) leaves

abbrev pub IsStreamOf : Stream → List Atoms → List Atoms → List ℕ → Type 0
IsStreamOf s all heard leaves = IsStream s.compiled.now s.ledger s.heard all heard s.backlog s.parts.items leaves

-- a ledger at which nothing has happened
abbrev pub start_of : Program → Goal → ℕ → Booked
start_of p g budget = record { task = listing p g budget; journal = [] }

-- Nothing has happened, nothing waits, and the one part is the tree's one leaf.
pub record IsStart (p : Program) (g : Goal) (budget : ℕ) (s : Stream) : Type 0 where
  pub compiled : s.compiled.now ≡ p
  pub ledger : s.ledger ≡ start_of p g budget
  pub stream : IsStreamOf s (listed (listing p g budget)) [] (leaves_of s.parts.items)

-- The reader is still the program's and its list the same, and it heard a front of that.
pub record IsFrontOf (p : Program) (all : List Atoms) (q : Program) (list heard : List Atoms) : Type 0 where
  pub program : q ≡ p
  pub all_are : list ≡ all
  pub front : IsPrefix heard all

-- Only what waits, and where the floor is, may have changed.
pub record Keeps (s t : Stream) : Type 0 where
  pub compiled : t.compiled ≡ s.compiled
  pub ledger : t.ledger ≡ s.ledger
  pub parts : t.parts ≡ s.parts

-- ---- a leaf that is worked on
-- A search for all answers is on the leaf's path, and goes with the board.
pub record Knows (v : Booked) (s : Searching) (leaf : ℕ) : Type 0 where
  pub program : s.program ≡ v.task.program
  pub mode : s.mode ≡ Enum
  pub agrees : Agrees (board v) s.known s.bound
  pub cube : s.cube ≡ Some (cube_of (board v).nodes leaf)

-- The set comes before neither the floor nor a part's low.
pub record MayRise (floor : Atoms) (parts : List Part) (low : Atoms) : Type 0 where
  pub higher : is_below (Some floor) low ≡ false
  pub lows : AllByRecursion (λ (p : Part). is_below (Some low) p.low.set ≡ false) parts

-- The leaf is to be split only where there is room, and by a literal whose variable its cube lacks.
abbrev pub IsCrowded : Booked → ℕ → View → Type 0
IsCrowded v leaf view.Open = Unit {0}
IsCrowded v leaf (view.Crowded lit) = (length (board v).nodes < 4194304) × IsOpen v.task.program (cube_of (board v).nodes leaf) lit
IsCrowded v leaf view.Unwanted = Unit {0}

-- ---- a leaf that is split
-- two parts more, of which the first half's is the last
pub record HasHalves (leaves : ℕ × ℕ) (first second : Row) (old new : List Part) : Type 0 where
  pub right : Part
  pub left : Part
  pub parts : new ≡ old ++ right ∷ left ∷ []
  pub right_leaf : right.leaf ≡ leaves.1
  pub right_low : right.low ≡ second
  pub left_leaf : left.leaf ≡ leaves.0
  pub left_low : left.low ≡ first

-- the leaf was split, and its first half opened
abbrev pub divided_by : Booked → ℕ → Literal → Booked
divided_by v leaf lit = with_events (with_events v (event.Split 0 leaf lit ∷ [])) (event.Release 0 (length (board v).nodes) ∷ [])
