-- A book: what its board is for, and the journal of the events that led to it.
use Rattle.std.specs.Prelude.{ℕ, List, [], ◌∷◌, ◌++◌, Option, Some}
use Rattle.asp_core.specs.declared.event.Event.{Event}
use Rattle.asp_core.specs.declared.task.Task.{Task}
use Rattle.asp_core.specs.Boards.{Board, start}
use Rattle.asp_core.specs.Events.{maker, IsLawful, replay}

-- a book as contracts see it
pub record Booked : Type 0 where
  pub task : Task
  pub journal : List Event

-- the board to which the journal leads
abbrev pub board : Booked → Board
board b = replay b.task b.journal

-- the book after these events more
abbrev pub with_events : Booked → List Event → Booked
with_events b [] = b
with_events b (e ∷ events) = record { task = b.task; journal = b.journal ++ e ∷ events }

-- each event names its maker
abbrev pub signed : Event → Option ℕ
signed e = Some (maker e)

-- each event's guard holds in turn
abbrev pub IsJournalOf : Task → List Event → Type 0
IsJournalOf t journal = IsLawful (start t) journal
