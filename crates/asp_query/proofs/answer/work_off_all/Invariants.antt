use Rattle.asp_book.specs.Books.{board}
use Rattle.asp_crew.proofs.FinishLaws.{takes_left}
use Rattle.asp_query.proofs.CloseLaws.{IsAmid}
use Rattle.asp_query.proofs.answer.work_off_all.Given as goal

abbrev pub invariant-leaves : goal.invariant-leaves
invariant-leaves g l = record {
  amid : IsAmid l.initial.book l.book l.search l.fuel;
  heard : g.W.Watch.IsAfter l.initial.watch l.watch;
}

abbrev pub decreases-leaves : goal.decreases-leaves
decreases-leaves g l = takes_left (board l.book)
