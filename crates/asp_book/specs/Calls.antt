-- What a call on a book in a vault tells.
use Rattle.std.specs.Prelude.{◌≡◌, List, [], ◌++◌, unwrap_or}
use Rattle.asp_vault.specs.declared.view.View.{View}
use Rattle.asp_vault.specs.Makers.{OnlyBy}
use Rattle.asp_vault.specs.Moments.{Moment}
use Rattle.asp_core.specs.declared.event.Event.{Event}
use Rattle.asp_core.specs.declared.goal.Goal.TheVariants as goal
use Rattle.asp_core.specs.declared.task.Task.{Task}
use Rattle.asp_core.specs.Boards.{Board}
use Rattle.asp_core.specs.Events.{replay}
use Rattle.asp_core.specs.Growth.{Grows, Spares}
use Rattle.asp_book.specs.Books.{signed, IsJournalOf}

abbrev pub Knows : Type 0
Knows = View Task Event

-- what a board is for of which nothing is known
abbrev pub no_task : Task
no_task = record { program = record { rules = []; minimize = []; outputs = []; externals = []; assumptions = [] }; goal = goal.Enum; budget = 0; limit = 0; query = [] }

-- what the seat's board is for
abbrev pub task_of : Knows → Task
task_of v = unwrap_or v.about no_task

-- the board to which the events that the seat has seen lead
abbrev pub seen_board : Knows → Board
seen_board v = replay (task_of v) v.seen

-- The call was made where the journal was `before`, and added these events. What the seat has was left alone until then, and
-- nothing recorded was taken back.
pub record IsCall (v w : Knows) (before added : List Event) : Type 0 where
  pub moment : Moment signed (IsJournalOf (task_of v)) v w before added
  pub spared : Spares v.number (seen_board v) (replay (task_of v) before)
  pub grown : Grows (seen_board v) (replay (task_of v) before)

-- the journal is the list that the seat has seen, with events more that are by its number
abbrev pub Adds : Knows → List Event → Type 0
Adds v journal = (added : List Event) × (journal ≡ v.seen ++ added) × OnlyBy signed v.number added
