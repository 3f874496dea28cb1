use Rattle.std.proofs.Common.{Option, sym, subst}
use Rattle.std.specs.Prelude.{MatchOption}
use Rattle.asp_crew_laws.specs.declared.report.Report.{Report}
use Rattle.asp_crew_laws.specs.Reports.{IsReport, IsWhole}
use Rattle.asp_crew_laws.proofs.PlayedLaws.{alone-reports}
use Rattle.asp_model.specs.Costs.{cost}
use Rattle.asp_crew.specs.Refuting.{HasCore}
use Rattle.asp_crew.specs.Twice.{IsSecond}
use Rattle.asp_crew.proofs.CoreLaws.{joined-core}
use Rattle.asp_crew.proofs.TieLaws.{joined-reports, joins-program, joins-units}
use Rattle.asp_crew.proofs.ties.with_ties.Goals as goal

pub joined-requires-clause-program : goal.joined-requires-clause-program
joined-requires-clause-program g c =
    joins-program c.args.compiled.now c.args.ask c.args.report c.in-Ok-Some.ties c.requires.report
    (subst (λ (o : Option Report). MatchOption o (IsWhole c.args.ask.all_optima c.args.report.results.end c.args.report.results.best)
    (IsSecond c.args.compiled.now c.args.ask c.args.report)) c.in-Ok-Some.field-0-is c.in-Ok-Some.ensures.second)

pub joined-requires-clause-units : goal.joined-requires-clause-units
joined-requires-clause-units g c =
    joins-units c.args.compiled.now c.args.ask c.args.report c.in-Ok-Some.ties
    (subst (λ (o : Option Report). MatchOption o (IsWhole c.args.ask.all_optima c.args.report.results.end c.args.report.results.best)
    (IsSecond c.args.compiled.now c.args.ask c.args.report)) c.in-Ok-Some.field-0-is c.in-Ok-Some.ensures.second)

pub returns-in-Ok-None-clause-report : goal.returns-in-Ok-None-clause-report
returns-in-Ok-None-clause-report g c = λ units is.
    alone-reports c.args.compiled.now c.args.ask units c.args.report is c.requires.second
    (subst (λ (o : Option Report). MatchOption o (IsWhole c.args.ask.all_optima c.args.report.results.end c.args.report.results.best)
    (IsSecond c.args.compiled.now c.args.ask c.args.report)) c.in-Ok-None.field-0-is c.in-Ok-None.ensures.second)

pub returns-in-Ok-Some-clause-report : goal.returns-in-Ok-Some-clause-report
returns-in-Ok-Some-clause-report g c = λ units is.
    subst (IsReport c.args.compiled.now c.args.ask units) (sym c.joined.ensures)
    (joined-reports c.args.compiled.now c.args.ask units c.args.report c.in-Ok-Some.ties c.requires.second
    (subst (λ (o : Option Report). MatchOption o (IsWhole c.args.ask.all_optima c.args.report.results.end c.args.report.results.best)
    (IsSecond c.args.compiled.now c.args.ask c.args.report)) c.in-Ok-Some.field-0-is c.in-Ok-Some.ensures.second) is)

pub returns-in-Ok-None-clause-core : goal.returns-in-Ok-None-clause-core
returns-in-Ok-None-clause-core g c = λ h. h

pub returns-in-Ok-Some-clause-core : goal.returns-in-Ok-Some-clause-core
returns-in-Ok-Some-clause-core g c = λ h.
    let x = subst (λ (o : Option Report). MatchOption o (IsWhole c.args.ask.all_optima c.args.report.results.end c.args.report.results.best)
    (IsSecond c.args.compiled.now c.args.ask c.args.report)) c.in-Ok-Some.field-0-is c.in-Ok-Some.ensures.second in
    subst (HasCore c.args.compiled.now) (sym c.joined.ensures) (joined-core c.args.compiled.now c.args.report c.in-Ok-Some.ties (x.best, cost c.args.compiled.now x.best) x.found)
