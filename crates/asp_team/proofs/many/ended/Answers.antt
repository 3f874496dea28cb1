use Rattle.std.proofs.Common.{◌^◌, ◌<◌, List, ◌++◌, Option, refl, ap, ◌∙◌, subst, sym}
use Rattle.std.specs.Prelude.{unwrap_or}
use Rattle.asp_vault.specs.Seats.{view}
use Rattle.asp_core.specs.declared.event.Event.{Event}
use Rattle.asp_core.specs.declared.task.Task.{Task}
use Rattle.asp_crew_laws.specs.Gone.{IsCrewGone}
use Rattle.asp_book.specs.Calls.{no_task}
use Rattle.asp_team.proofs.RunLaws.{book-task, report-shared, run-begins, run-in, run-query, report-is}
use Rattle.asp_team.proofs.many.ended.Goals as goal

pub work_off-requires-clause-task : goal.work_off-requires-clause-task
work_off-requires-clause-task g c =
    run-query c.args.compiled.now c.args.plan.ask c.args.plan.budget c.dismissed-book.result.0.task
    (book-task c.args.compiled.now c.args.plan.ask c.args.plan.budget c.dismissed-book.result.0 (view c.args.lead.seat) (view c.args.lead.seat) c.dismissed-book.ensures.task refl c.requires.about)

pub work_off-requires-clause-goal : goal.work_off-requires-clause-goal
work_off-requires-clause-goal g c =
    run-begins c.args.compiled.now c.args.plan.ask c.args.plan.budget c.dismissed-book.result.0.task
    (book-task c.args.compiled.now c.args.plan.ask c.args.plan.budget c.dismissed-book.result.0 (view c.args.lead.seat) (view c.args.lead.seat) c.dismissed-book.ensures.task refl c.requires.about)

pub work_off-requires-clause-of : goal.work_off-requires-clause-of
work_off-requires-clause-of g c =
    ap (λ (t : Task). t.program)
    (book-task c.args.compiled.now c.args.plan.ask c.args.plan.budget c.dismissed-book.result.0 (view c.args.lead.seat) (view c.args.lead.seat) c.dismissed-book.ensures.task refl c.requires.about)

pub work_off-requires-clause-fits : goal.work_off-requires-clause-fits
work_off-requires-clause-fits g c =
    let e = book-task c.args.compiled.now c.args.plan.ask c.args.plan.budget c.dismissed-book.result.0 (view c.args.lead.seat) (view c.args.lead.seat)
    c.dismissed-book.ensures.task refl c.requires.about in
    subst (λ (t : Task). t.budget < 2 ^ 64) (ap (λ (o : Option Task). unwrap_or o no_task) c.requires.about ∙ sym e) c.requires.idle.settled.run.budget

pub reported-requires-clause-task : goal.reported-requires-clause-task
reported-requires-clause-task g c =
    run-in c.args.compiled.now c.args.plan.ask c.args.plan.budget c.work_off.new.book.task
    (c.in-Ok.ensures.finishes.task
    ∙ book-task c.args.compiled.now c.args.plan.ask c.args.plan.budget c.dismissed-book.result.0 (view c.args.lead.seat) (view c.args.lead.seat) c.dismissed-book.ensures.task refl c.requires.about)

pub returns-in_ok-report-in-Ok-clause-report : goal.returns-in_ok-report-in-Ok-clause-report
returns-in_ok-report-in-Ok-clause-report g c =
    report-is c.args.compiled.now c.args.plan.ask c.args.plan.budget c.work_off.new.book.task c.in_ok-report-in-Ok.report
    (c.in-Ok.ensures.finishes.task
    ∙ book-task c.args.compiled.now c.args.plan.ask c.args.plan.budget c.dismissed-book.result.0 (view c.args.lead.seat) (view c.args.lead.seat) c.dismissed-book.ensures.task refl c.requires.about)
    c.in_ok-report-in-Ok.ensures.report

pub returns-in_ok-report-in-Ok-clause-shared : goal.returns-in_ok-report-in-Ok-clause-shared
returns-in_ok-report-in-Ok-clause-shared g c = λ never begun left.
    let b = c.dismissed-book.result.0 in let w = c.work_off.new.book in
    let e = book-task c.args.compiled.now c.args.plan.ask c.args.plan.budget b (view c.args.lead.seat) (view c.args.lead.seat) c.dismissed-book.ensures.task refl c.requires.about in
    let crew = c.dismissed-book.ensures.crew never begun left in
    let adds = c.in-Ok.ensures.finishes.adds in
    report-shared c.args.compiled.now c.args.plan.ask c.args.plan.budget c.in_ok-report-in-Ok.report
    (report-is c.args.compiled.now c.args.plan.ask c.args.plan.budget w.task c.in_ok-report-in-Ok.report (c.in-Ok.ensures.finishes.task ∙ e)
    c.in_ok-report-in-Ok.ensures.report) c.in_ok-report-in-Ok.ensures.second
    (view c.args.lead.seat).splits c.args.lead.short never begun crew.0 adds.more c.requires.some
    (subst (λ (t : Task). IsCrewGone t (view c.args.lead.seat).splits c.args.lead.short never begun crew.0) e crew.2)
    (c.in_ok-report-in-Ok.ensures.journal ∙ adds.journal ∙ ap (λ (l : List Event). l ++ adds.more) crew.1) adds.main c.in_ok-report-in-Ok.ensures.short

pub reported-requires-clause-of : goal.reported-requires-clause-of
reported-requires-clause-of g c =
    ap (λ (t : Task). t.program)
    (c.in-Ok.ensures.finishes.task
    ∙ book-task c.args.compiled.now c.args.plan.ask c.args.plan.budget c.dismissed-book.result.0 (view c.args.lead.seat) (view c.args.lead.seat) c.dismissed-book.ensures.task refl c.requires.about)
