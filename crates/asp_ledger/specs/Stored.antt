-- How a ledger is stored.
use Rattle.std.specs.Prelude.{◌≡◌}
use Rattle.asp_book.specs.Books.{Booked, board, IsJournalOf}
use Rattle.asp_ledger.specs.declared.ledger.Ledger.TheInside.{Inside}
use Rattle.asp_ledger.specs.Ledgers.{ListsAnswers, listing}

abbrev pub ledger_of : Inside → Booked
ledger_of l = record { task = listing l.program.value l.goal.value l.budget; journal = l.journal.items }

pub record IsLedger (l : Inside) : Type 0 where
  pub answers : ListsAnswers l.goal.value
  pub tree : l.tree ≡ (board (ledger_of l)).nodes
  pub lawful : IsJournalOf (listing l.program.value l.goal.value l.budget) l.journal.items
