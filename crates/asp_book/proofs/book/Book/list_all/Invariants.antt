use Rattle.std.proofs.Common.{◌≡◌, ◌++◌, length}
use Rattle.std.specs.Vec.Iter.{into_iter_items, into_iter_len}
use Rattle.asp_book.specs.Books.{with_events}
use Rattle.asp_book.specs.Replies.{deliveries}
use Rattle.asp_book.proofs.book.Book.list_all.Given as goal

abbrev pub invariant-loop-listing : goal.invariant-loop-listing
invariant-loop-listing l = record {
  items : l.yielded ++ into_iter_items l.listing-iterator ≡ into_iter_items l.initial.listing-iterator;
  self : l.self ≡ with_events l.fn.self (deliveries l.by l.yielded);
  len : into_iter_len l.listing-iterator ≡ length (into_iter_items l.listing-iterator);
}
