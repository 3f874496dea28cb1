-- Seats that come back to the first.
use Rattle.std.specs.Prelude.{◌≡◌, ℕ, ◌+◌, Bool, true, false, List, Option}
use mathlib.Core.List.{IsPrefix}
use mathlib.Core.Option.{some}
use lib.ListN.{get_elem?}
use Rattle.asp_model.specs.declared.program.Program.{Program}
use Rattle.asp_vault.specs.declared.view.View.{View}
use Rattle.asp_vault.specs.Makers.{placed, of_number, named}
use Rattle.asp_vault.specs.Seats.{view, IsOf}
use Rattle.asp_core.specs.declared.event.Event.{Event}
use Rattle.asp_core.specs.declared.task.Task.{Task}
use Rattle.asp_core.specs.Units.{out_of}
use Rattle.asp_core.specs.Events.{held_by}
use Rattle.asp_book.specs.Books.{signed, IsJournalOf}
use Rattle.asp_book.specs.Calls.{Knows, task_of, seen_board}
use Rattle.asp_crew_laws.specs.Gone.{IsGone}
use Rattle.asp_slots.specs.Shelves.{IsAt, IsFirst}
use Rattle.asp_worker.specs.declared.worker.Worker.{Worker}
use Rattle.asp_worker.specs.declared.worker.Shared.{Shared}
use Rattle.asp_worker.specs.Seats.{IsIdle, IsPlaced, MayWork}
use Rattle.asp_team.specs.declared.lead.Lead.{Lead}

-- The seats are the first of what the workers share, don't have the book or the log, and the one at the book has seen a lawful journal.
pub record IsLead (c : Shared) (l : Lead) : Type 0 where
  pub book : IsOf c.book l.seat
  pub log : IsAt c.log l.pages
  pub first : (view l.seat).number ≡ 0
  pub pages_first : IsFirst l.pages
  pub rests : (view l.seat).holds ≡ false
  pub lawful : IsJournalOf (task_of (view l.seat)) (view l.seat).seen

-- From v to w so many seats were joined to the first, which did nothing itself.
pub record Joins {D E : Type 0} (v w : View D E) (n : ℕ) : Type 0 where
  pub about : w.about ≡ v.about
  pub splits : w.splits ≡ v.splits
  pub joins : w.joins ≡ v.joins + n
  pub own : w.own ≡ v.own
  pub seen : IsPrefix v.seen w.seen

-- The number's seat was joined to this one, and the number holds no leaf and no units.
pub record IsHome (v : Knows) (n : ℕ) : Type 0 where
  pub place : ℕ
  pub own : List (ℕ × Event)
  pub guest : get_elem? v.guests place ≡ some (n, own)
  -- What it did stands in what was seen.
  pub stands : of_number signed n (placed 0 v.seen) ≡ named signed own
  pub free : held_by n (seen_board v).nodes ≡ 0
  pub home : out_of (seen_board v).out n ≡ 0

-- What the number, which began when `begun` was done, left in what was seen.
abbrev pub LeftBy : Knows → Bool → Bool → List Event → ℕ → Type 0
LeftBy v short never begun n = IsGone (task_of v) short never n begun v.seen

-- The worker was joined to the lead: its number is at home, and what it left behind is there.
pub record CameBack (l : Lead) (k : Worker) : Type 0 where
  pub home : IsHome (view l.seat) (view k.seat).number
  pub gone : (never : Bool) (begun : List Event) → LeftBy (view k.seat) k.short never begun (view k.seat).number → LeftBy (view l.seat) l.short never begun (view k.seat).number

-- The worker's number is at home, and left the leaves that it took as a worker does. `stopped` says that somebody may have stopped it.
pub record CameHome (stopped : Type 0) (l : Lead) (h : Worker) : Type 0 where
  pub home : IsHome (view l.seat) (view h.seat).number
  pub gone : (never : Bool) → (never ≡ true → stopped → ⊥) → LeftBy (view l.seat) l.short never (view h.seat).seen (view h.seat).number

-- Whoever was at home is, and what it left behind is there.
abbrev pub StayHome : Lead → Lead → Type 0
StayHome l k = (n : ℕ) → IsHome (view l.seat) n → IsHome (view k.seat) n ×
    ((never : Bool) (begun : List Event) → LeftBy (view l.seat) l.short never begun n → LeftBy (view k.seat) k.short never begun n)

-- The worker may begin, and its seat is for this task.
pub record MayJoin (p : Program) (c : Shared) (about : Option Task) (h : Worker) : Type 0 where
  pub may : MayWork p c h
  pub about_is : (view h.seat).about ≡ about

-- The worker may be joined: its seat is for this task, and its number has nothing.
pub record IsBack (c : Shared) (about : Option Task) (k : Worker) : Type 0 where
  pub placed : IsPlaced c k
  pub idle : IsIdle (view k.seat)
  pub about_is : (view k.seat).about ≡ about
