-- How a book is stored.
use Rattle.std.specs.Prelude.{◌≡◌, ◌+◌, ◌≤◌, length}
use Rattle.std.specs.Vec.{vec_capacity}
use Rattle.asp_core.specs.Events.{replay}
use Rattle.asp_book.specs.declared.book.Book.TheInside.{Inside}
use Rattle.asp_book.specs.Books.{Booked, IsJournalOf}
use Rattle.asp_book.specs.Fuels.{IsOwnFuel, places_of}

abbrev pub booked_of : Inside → Booked
booked_of b = record { task = b.state.value.task; journal = b.journal.items }

pub record IsStored (b : Inside) : Type 0 where
  pub state : b.state.value ≡ replay b.state.value.task b.journal.items
  pub lawful : IsJournalOf b.state.value.task b.journal.items
  pub fuel : IsOwnFuel b.state.value b.fuel
  pub places : b.places ≡ places_of b.state.value
  -- The journal has a free place for each event that takes no memory.
  pub room : length b.journal.items + b.places ≤ vec_capacity b.journal
