use Rattle.std.proofs.Common.{ap, ◌∙◌, subst, sym}
use Rattle.std.proofs.lemmas.Result.{IfOk-weaker}
use Rattle.asp_core.specs.declared.task.Task.{Task}
use Rattle.asp_book.specs.Books.{Booked}
use Rattle.asp_crew_laws.specs.Reports.{IsReport}
use Rattle.asp_crew_laws.specs.Runs.{asks}
use Rattle.asp_crew.specs.Running.{QueryStands}
use Rattle.asp_crew.proofs.ReportLaws.{begun, begun-report}
use Rattle.asp_crew.proofs.alone.first.Goals as goal

pub finish_program-requires-clause-task : goal.finish_program-requires-clause-task
finish_program-requires-clause-task g c =
    subst (λ (v : Booked). QueryStands v.task)
    (sym (begun c.args.compiled.now c.args.ask c.args.budget c.of.result c.limit.result c.as_slice.result.now c.in_ok-state.state
    c.in_ok-book.book c.of.ensures c.limit.ensures c.as_slice.ensures c.in_ok-state.ensures c.in_ok-book.ensures)) tt

pub reported-requires-clause-of : goal.reported-requires-clause-of
reported-requires-clause-of g c =
    ap (λ (t : Task). t.program) (c.in-Ok.ensures.finishes.task
    ∙ ap (λ (v : Booked). v.task)
    (begun c.args.compiled.now c.args.ask c.args.budget c.of.result c.limit.result c.as_slice.result.now c.in_ok-state.state c.in_ok-book.book
    c.of.ensures c.limit.ensures c.as_slice.ensures c.in_ok-state.ensures c.in_ok-book.ensures))

pub returns-in-Ok-clause-report : goal.returns-in-Ok-clause-report
returns-in-Ok-clause-report g c =
    let a = c.args.ask in
    let w = c.finish_program.new.book in
    let first =
    begun c.args.compiled.now c.args.ask c.args.budget c.of.result c.limit.result c.as_slice.result.now c.in_ok-state.state c.in_ok-book.book
    c.of.ensures c.limit.ensures c.as_slice.ensures c.in_ok-state.ensures c.in_ok-book.ensures in
    IfOk-weaker c.reported.result (IsReport w.task.program (asks a.mode a.models a.by_name) w.task.budget) (IsReport c.args.compiled.now (asks a.mode a.models a.by_name) c.args.budget)
    (λ r is. begun-report c.args.compiled.now a c.args.budget c.in_ok-book.book w r first c.in-Ok.ensures.finishes.task is) c.reported.ensures.report

pub returns-in_err-state-clause-heard : goal.returns-in_err-state-clause-heard
returns-in_err-state-clause-heard g c = g.met.W.Watch.begins c.args.watch.now

pub returns-in_err-book-clause-heard : goal.returns-in_err-book-clause-heard
returns-in_err-book-clause-heard g c = g.met.W.Watch.begins c.args.watch.now
