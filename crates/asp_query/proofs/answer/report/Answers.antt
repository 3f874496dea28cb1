use Rattle.std.proofs.Common.{◌∙◌, List, ap, None, Some}
use Rattle.std.specs.Prelude.{if◌then◌else◌, ℤ}
use Rattle.asp_model.specs.declared.program.Program.{Program}
use Rattle.asp_book.specs.Books.{board}
use Rattle.asp_crew.specs.Refuting.{is_nothing}
use Rattle.asp_unsat.specs.Cores.{blamed_by}
use Rattle.asp_query.proofs.ReportLaws.{book-reports, told-lists}
use Rattle.asp_query.proofs.answer.report.Goals as goal

pub returns-in-Ok-clause-report : goal.returns-in-Ok-clause-report
returns-in-Ok-clause-report c =
    let v = c.args.book in
    book-reports v c.told-report.result c.in-Ok.core c.requires.through c.told-report.ensures.lawful c.told-report.ensures.journal c.told-report.ensures.told c.told-report.ensures.mode
    (c.in-Ok.ensures
    ∙ ap (λ (p : Program). if is_nothing (board v).answers then Some (blamed_by p (board v).reasons c.args.literals.now) else None) c.requires.program
    ∙ ap (λ (ls : List ℤ). if is_nothing (board v).answers then Some (blamed_by v.task.program (board v).reasons ls) else None) c.requires.wanted)

pub returns-in-Ok-clause-answers : goal.returns-in-Ok-clause-answers
returns-in-Ok-clause-answers c = told-lists c.args.book c.told-report.result c.requires.through c.told-report.ensures.told
