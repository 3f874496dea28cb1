use Rattle.std.proofs.Common.{◌≡◌, sym, ap, ◌∙◌, subst}
use Rattle.asp_model.specs.declared.program.Program.{Program}
use Rattle.asp_vars.proofs.AssumptionLaws.{assumptions-stand}
use Rattle.asp_split.specs.Parts.{AreStanding}
use Rattle.asp_split.proofs.probe.literals.Goals as goal

pub add_all-requires : goal.add_all-requires
add_all-requires c =
    let p : Program = c.args.compiled.now in
    let same : c.as_slice.result.now ≡ p.assumptions = c.as_slice.ensures.value ∙ ap (λ (q : Program). q.assumptions) c.program.ensures.program in
    subst (AreStanding p) (sym same) (assumptions-stand p)
