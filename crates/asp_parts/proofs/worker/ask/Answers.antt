use Rattle.std.specs.Prelude.{IfSome, Option}
use Rattle.std.proofs.Common.{◌≡◌, ap, subst, ◌∙◌}
use Rattle.asp_crew_laws.specs.declared.report.Report.{Report}
use Rattle.asp_query.specs.Kept.{IsQueryReport, query_of}
use Rattle.asp_split.specs.Dividing.{part}
use Rattle.asp_parts.proofs.FoundLaws.{asked-among, asked-is}
use Rattle.asp_parts.proofs.worker.ask.Goals as goal

pub found-requires : goal.found-requires
found-requires c =
    let b = c.args.bench.now in
    asked-among b.compiled.now b.search c.as_slice.result.now c.atoms.result.now c.rows.result.now.sets c.in-Some.report.results.answers
    c.requires.search c.atoms.ensures c.rows.ensures
    (subst (λ (o : Option Report). IfSome o (λ (r : Report). IsQueryReport (query_of b.search c.as_slice.result.now c.units_of-units.result) r)) c.in-Some.is c.in_ok-ask.ensures.report).answers

pub returns-in_ok-found-in-Some-clause-found : goal.returns-in_ok-found-in-Some-clause-found
returns-in_ok-found-in-Some-clause-found c =
    let b = c.args.bench.now in
    let are : c.in-Some.report.results.answers ≡ part b.search c.as_slice.result.now =
    (subst (λ (o : Option Report). IfSome o (λ (r : Report). IsQueryReport (query_of b.search c.as_slice.result.now c.units_of-units.result) r)) c.in-Some.is c.in_ok-ask.ensures.report).answers in
    asked-is b.compiled.now b.search c.args.leaf.now.cube c.atoms.result.now c.rows.result.now.sets c.in-Some.report.results.answers _
    c.requires.search c.atoms.ensures c.rows.ensures (are ∙ ap (part b.search) c.as_slice.ensures.value) c.in_ok-found-in-Some.ensures.rows c.in_ok-found-in-Some.ensures.entries
