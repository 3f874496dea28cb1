use Rattle.std.proofs.Common.{◌≡◌, ℕ, Bool, List, sym, subst}
use Rattle.std.proofs.lemmas.Result.{IfOk-weaker}
use Rattle.asp_crew_laws.specs.declared.report.Report.{Report}
use Rattle.asp_crew_laws.specs.Reports.{IsReport}
use Rattle.asp_crew_laws.specs.Runs.{asks}
use Rattle.asp_crew.specs.Refuting.{HasCore}
use Rattle.asp_core.specs.declared.event.Event.{Event}
use Rattle.asp_crew_laws.specs.Gone.{IsShared}
use Rattle.asp_crew_laws.specs.Runs.{task_of}
use Rattle.asp_team.specs.Teams.{HaveLeft}
use Rattle.asp_team.proofs.many.finished.Goals as goal

pub with_ties-requires-clause-report : goal.with_ties-requires-clause-report
with_ties-requires-clause-report g c = (c.args.plan.budget, c.in_ok-report.ensures.report)

pub returns-clause-report : goal.returns-clause-report
returns-clause-report g c =
    let first : Report = c.in_ok-report.report in
    IfOk-weaker c.with_ties.result (λ (r : Report). (units : ℕ) →
    IsReport c.args.compiled.now (asks c.args.plan.ask.mode c.args.plan.ask.models c.args.plan.ask.by_name) units first →
    IsReport c.args.compiled.now c.args.plan.ask units r) (IsReport c.args.compiled.now c.args.plan.ask c.args.plan.budget)
    (λ r is. is c.args.plan.budget c.in_ok-report.ensures.report) c.with_ties.ensures.report

pub returns-clause-shared : goal.returns-clause-shared
returns-clause-shared g c =
    let first : Report = c.in_ok-report.report in
    IfOk-weaker c.with_ties.result (λ (r : Report). (r.journal ≡ first.journal) × (r.short ≡ first.short))
    (λ (r : Report). (never : Bool) (begun : List Event) → HaveLeft c.args.lead never begun →
    IsShared (task_of c.args.compiled.now c.args.plan.ask c.args.plan.budget) r.short never r.journal)
    (λ r same never begun left.
    subst (λ (s : Bool). IsShared (task_of c.args.compiled.now c.args.plan.ask c.args.plan.budget) s never r.journal) (sym same.1)
    (subst (IsShared (task_of c.args.compiled.now c.args.plan.ask c.args.plan.budget) first.short never) (sym same.0)
    (c.in_ok-report.ensures.shared never begun left))) c.with_ties.ensures.same

pub returns-clause-core : goal.returns-clause-core
returns-clause-core g c =
    let first : Report = c.in_ok-report.report in
    IfOk-weaker c.with_ties.result (λ (r : Report). HasCore c.args.compiled.now first → HasCore c.args.compiled.now r) (HasCore c.args.compiled.now)
    (λ r h. h c.in_ok-report.ensures.core) c.with_ties.ensures.core
