use Rattle.std.proofs.Common.{◌≡◌, sym, subst}
use Rattle.std.specs.Result.{IfOk}
use Rattle.asp_vault.specs.Makers.{Unnamed}
use Rattle.asp_vault.specs.Rules.{opened}
use Rattle.asp_vault.specs.Seats.{view}
use Rattle.asp_book.specs.Books.{Booked, signed, IsJournalOf}
use Rattle.asp_crew.proofs.ReportLaws.{begun}
use Rattle.asp_team.proofs.team.start.Goals as goal

pub make-requires-clause-sound : goal.make-requires-clause-sound
make-requires-clause-sound c = subst (λ (x : Booked). IsJournalOf x.task x.journal) (sym c.in_ok-book.ensures) tt

pub make-requires-clause-unnamed : goal.make-requires-clause-unnamed
make-requires-clause-unnamed c = subst (λ (x : Booked). Unnamed signed x.journal) (sym c.in_ok-book.ensures) tt

pub returns-clause-view : goal.returns-clause-view
returns-clause-view c =
    subst (λ (x : Booked). IfOk c.make.result (λ r. view r.1 ≡ opened x.task x.journal))
    (begun c.args.compiled.now c.args.ask c.args.budget c.of.result c.limit.result c.as_slice.result.now c.in_ok-state.state c.in_ok-book.book
    c.of.ensures c.limit.ensures c.as_slice.ensures c.in_ok-state.ensures c.in_ok-book.ensures) c.make.ensures.view
