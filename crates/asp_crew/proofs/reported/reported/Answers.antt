use Rattle.std.proofs.Common.{sym, ap, ◌∙◌, subst}
use Rattle.asp_book.specs.Books.{board}
use Rattle.asp_crew_laws.specs.declared.report.Report.{Report}
use Rattle.asp_crew_laws.specs.Reports.{IsReport}
use Rattle.asp_crew_laws.specs.Runs.{asks}
use Rattle.asp_crew.proofs.CoreLaws.{beside-core, run-seeks, told-core}
use Rattle.asp_crew.proofs.ReportLaws.{reports}
use Rattle.asp_crew.proofs.reported.reported.Goals as goal

pub returns-in-Ok-clause-report : goal.returns-in-Ok-clause-report
returns-in-Ok-clause-report c =
    let a = c.args.ask in
    let v = c.args.book in
    let r : Report = c.told-report.result in
    subst (IsReport v.task.program (asks a.mode a.models a.by_name) v.task.budget) (sym c.with_core.ensures)
    (beside-core v.task.program (asks a.mode a.models a.by_name) v.task.budget r c.in-Ok.core c.told-report.ensures.second
    (reports a v r c.requires.task c.told-report.ensures.lawful c.told-report.ensures.journal c.told-report.ensures.told c.told-report.ensures.second c.told-report.ensures.mode))

pub returns-in-Ok-clause-journal : goal.returns-in-Ok-clause-journal
returns-in-Ok-clause-journal c = ap (λ (r : Report). r.journal) c.with_core.ensures ∙ c.told-report.ensures.journal

pub returns-in-Ok-clause-second : goal.returns-in-Ok-clause-second
returns-in-Ok-clause-second c = ap (λ (r : Report). r.second) c.with_core.ensures ∙ c.told-report.ensures.second

pub returns-in-Ok-clause-log : goal.returns-in-Ok-clause-log
returns-in-Ok-clause-log c = ap (λ (r : Report). r.log) c.with_core.ensures ∙ c.told-report.ensures.log

pub returns-in-Ok-clause-short : goal.returns-in-Ok-clause-short
returns-in-Ok-clause-short c = ap (λ (r : Report). r.short) c.with_core.ensures ∙ c.told-report.ensures.short

pub returns-in-Ok-clause-core : goal.returns-in-Ok-clause-core
returns-in-Ok-clause-core c =
    told-core c.args.compiled.now c.args.ask.mode (board c.args.book) c.told-report.result c.with_core.result c.in-Ok.core c.with_core.ensures
    c.told-report.ensures.mode (run-seeks c.args.ask c.args.book c.requires.task) c.told-report.ensures.told c.in-Ok.ensures
