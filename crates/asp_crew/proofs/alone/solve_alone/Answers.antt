use Rattle.std.proofs.lemmas.Result.{IfOk-weaker}
use Rattle.asp_crew_laws.specs.declared.report.Report.{Report}
use Rattle.asp_crew.specs.Refuting.{HasCore}
use Rattle.asp_crew.proofs.alone.solve_alone.Goals as goal

pub returns-clause-core : goal.returns-clause-core
returns-clause-core g c =
    IfOk-weaker c.with_ties.result (λ (r : Report). HasCore c.args.compiled.now c.in_ok-report.report → HasCore c.args.compiled.now r)
    (HasCore c.args.compiled.now) (λ r h. h c.in_ok-report.ensures.core) c.with_ties.ensures.core
