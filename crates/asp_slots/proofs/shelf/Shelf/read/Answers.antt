use Rattle.std.proofs.Common.{sym, subst}
use Rattle.std.specs.Prelude.{All}
use Rattle.asp_log.specs.Entries.{IsEntry}
use Rattle.asp_slots.specs.declared.shelf.Shelf.{Shelf}
use Rattle.asp_slots.specs.Shelves.{program_of}
use Rattle.asp_slots.proofs.shelf.Shelf.read.Goals as goal

pub returns-in_ok-copies-in-Row-seat-2-clause-ok : goal.returns-in_ok-copies-in-Row-seat-2-clause-ok
returns-in_ok-copies-in-Row-seat-2-clause-ok g c = record {
  count = c.in_ok-copies-in-Row-seat-2.ensures.count;
  good = subst (λ (s : Shelf). All (IsEntry (program_of s)) c.in_ok-copies-in-Row-seat-2.copies.items) (sym c.in-Row.is) c.in_ok-copies-in-Row-seat-2.ensures.good;
  exact = tt;
}
