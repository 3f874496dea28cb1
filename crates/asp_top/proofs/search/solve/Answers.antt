use Rattle.std.proofs.Common.{◌∙◌, ap, length, map, subst, sym}
use Rattle.std.specs.Prelude.{IfSome}
use Rattle.asp_model.specs.declared.program.Program.{Program}
use Rattle.asp_model.specs.Models.{atoms_of}
use Rattle.asp_vars.specs.Numbering.{bodies_of}
use Rattle.asp_counts.specs.declared.tallies.WorkerCounts.{WorkerCounts}
use Rattle.asp_crew_laws.specs.Reports.{IsReport}
use Rattle.asp_top.proofs.DoneLaws.{counted-by, solves-by}
use Rattle.asp_top.specs.Loops.{HasLoops}
use Rattle.asp_top.proofs.search.solve.Goals as goal

pub returns-in-Ok-clause-solves : goal.returns-in-Ok-clause-solves
returns-in-Ok-clause-solves g c = λ p is.
    let given = c.args.options.now in
    let x = c.args.prepared.now in
    let q = c.program-program.result.now in
    solves-by given p x q c.in-Ok.report c.layout_of.result _ _ _ _ _ is c.program-program.ensures.program c.layout_of.ensures
    (subst (λ ask. IsReport x.compiled ask given.budget c.in-Ok.report) c.ask_of-ask.ensures c.in-Ok.ensures.report) c.conclude.ensures.concludes

pub returns-in-Ok-clause-counted : goal.returns-in-Ok-clause-counted
returns-in-Ok-clause-counted g c = counted-by _ c.layout_of.result c.program-program.result.now c.args.prepared.now.aside c.in-Ok.report _ _ _ _ _ _ c.conclude.ensures.concludes (record {
  atoms = c.of.ensures.atoms ∙ ap (λ (p : Program). length (atoms_of p)) (sym c.in-Ok.ensures.report.program);
  bodies = c.of.ensures.bodies ∙ ap (λ (p : Program). length (bodies_of p)) (sym c.in-Ok.ensures.report.program);
  loops = subst (λ (p : Program). IfSome c.of.result.loops (HasLoops p)) (sym c.in-Ok.ensures.report.program) (rw c.of.ensures.loops c.loops-loops.ensures);
  numbered = ap (map (λ (w : WorkerCounts). w.worker)) (c.of.ensures.workers ∙ c.new.ensures.items);
})
