use Rattle.std.proofs.Common.{ap, ◌∙◌}
use Rattle.asp_model.specs.declared.program.Program.{Program}
use Rattle.asp_model.specs.Costs.{cost, just_above}
use Rattle.asp_checker.proofs.BoundLaws.{above-long}
use Rattle.asp_checker.proofs.bounds.Bound.above.Goals as goal

pub by-requires : goal.by-requires
by-requires c =
    above-long c.args.compiled.now c.args.set.now c.in_ok-above.above c.in-Some.cost
    (c.in_ok-above.ensures ∙ ap (λ (q : Program). just_above (cost q c.args.set.now)) c.program.ensures.program) c.in-Some.is
