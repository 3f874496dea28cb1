use Rattle.std.proofs.Common.{inl, sym, ◌∙◌}
use Rattle.asp_model.specs.declared.results.Mode.TheVariants.{Opt}
use Rattle.asp_top.specs.Runs.{whole_list}
use Rattle.asp_top.proofs.AfterLaws.{delivers-by, first-alone, first-found}
use Rattle.asp_top.proofs.EndLaws.{cut-unwritten}
use Rattle.asp_top.proofs.stream.stream_optima.Goals as goal

pub stream-requires-clause-first : goal.stream-requires-clause-first
stream-requires-clause-first g c = first-found c.args.compiled.now c.args.options.now.budget c.in-Ok.first c.in-Ok.ensures.report (sym c.has_optimum.ensures ∙ c.if-has_optimum.true)

pub returns-else-has_optimum-clause-streams : goal.returns-else-has_optimum-clause-streams
returns-else-has_optimum-clause-streams g c =
    let p = c.args.compiled.now in
    let f = c.in-Ok.first in
    first-alone p c.args.options.now.budget c.args.options.now.models f _ _ _ _ c.deliver.result c.in-Ok.ensures.report (sym c.has_optimum.ensures ∙ c.if-has_optimum.false)
    (delivers-by c.as_lines.result p c.program.result.now f _ _ _ _ c.deliver.result c.as_lines.ensures c.program.ensures.program c.deliver.ensures.delivers)
    c.deliver.ensures.flushed

pub returns-in-Err-clause-streams : goal.returns-in-Err-clause-streams
returns-in-Err-clause-streams g c = inl (cut-unwritten c.args.compiled.now (whole_list Opt c.args.compiled.now) _ _ c.failed.result c.failed.ensures)
