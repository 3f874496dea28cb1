use Rattle.std.proofs.Common.{ap, ◌∙◌}
use Rattle.asp_vars.specs.Paid.{Units}
use Rattle.asp_book.specs.Books.{with_events}
use Rattle.asp_book.specs.Replies.{leased_out}
use Rattle.asp_crew.proofs.BookLaws.{pool-fits}
use Rattle.asp_crew.proofs.FinishLaws.{IsLeased, leased-is}
use Rattle.asp_query.proofs.ReportLaws.{asking-begins, over-all}
use Rattle.asp_query.proofs.answer.search_all.Goals as goal

pub work_off_all-requires-clause-asking : goal.work_off_all-requires-clause-asking
work_off_all-requires-clause-asking g c =
    let v = c.args.book.now in
    let leased : IsLeased v c.lease.new.self =
    leased-is v c.lease.new.self c.requires.begun.idle (pool-fits v c.requires.begun.query c.journal-lawful.ensures.lawful c.requires.begun.fits)
    (c.in_ok-fuel.ensures.journal ∙ ap (λ (u : Units). with_events v (leased_out 0 u)) c.in_ok-fuel.ensures.fuel) in
    asking-begins v c.lease.new.self c.args.search.now c.in_ok-fuel.fuel c.requires.begun leased c.in_ok-fuel.ensures.fuel

pub work_off_all-requires-clause-alone : goal.work_off_all-requires-clause-alone
work_off_all-requires-clause-alone g c =
    let v = c.args.book.now in
    let leased : IsLeased v c.lease.new.self =
    leased-is v c.lease.new.self c.requires.begun.idle (pool-fits v c.requires.begun.query c.journal-lawful.ensures.lawful c.requires.begun.fits)
    (c.in_ok-fuel.ensures.journal ∙ ap (λ (u : Units). with_events v (leased_out 0 u)) c.in_ok-fuel.ensures.fuel) in
    leased.alone

pub returns-then-done-clause-ends : goal.returns-then-done-clause-ends
returns-then-done-clause-ends g c = λ e.
    let v = c.args.book.now in
    let leased : IsLeased v c.lease.new.self =
    leased-is v c.lease.new.self c.requires.begun.idle (pool-fits v c.requires.begun.query c.journal-lawful.ensures.lawful c.requires.begun.fits)
    (c.in_ok-fuel.ensures.journal ∙ ap (λ (u : Units). with_events v (leased_out 0 u)) c.in_ok-fuel.ensures.fuel) in
    over-all v c.lease.new.self c.args.search.now c.in_ok-fuel.fuel c.requires.begun leased c.in_ok-fuel.ensures.fuel
    c.work_off_all.new.book c.back.new.self c.work_off_all.new.search c.work_off_all.new.fuel (c.in_ok-done.ensures.leaves e) c.back.ensures
