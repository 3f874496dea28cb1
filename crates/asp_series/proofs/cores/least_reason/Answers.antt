use Rattle.std.proofs.Common.{◌++◌}
use Rattle.asp_series.proofs.ShrinkLaws.{bare-none, bare-sound, least-reasons, nothing-assumed}
use Rattle.asp_series.proofs.cores.least_reason.Goals as goal

pub least_core-core-requires-clause-sound : goal.least_core-core-requires-clause-sound
least_core-core-requires-clause-sound g c =
    let p = c.args.asking.now.program.now in
    bare-sound p c.in_ok-bare.bare (p.assumptions ++ c.args.asking.now.literals.now) c.args.literals.now c.in_ok-bare.ensures c.requires.askable.sound c.requires.enough

pub least_core-core-requires-clause-none : goal.least_core-core-requires-clause-none
least_core-core-requires-clause-none g c =
    let p = c.args.asking.now.program.now in
    bare-none p c.in_ok-bare.bare (p.assumptions ++ c.args.asking.now.literals.now) c.args.literals.now c.in_ok-bare.ensures c.requires.askable.itself
    (nothing-assumed p _ c.requires.askable.sound) c.requires.enough

pub returns-clause-reason : goal.returns-clause-reason
returns-clause-reason g c =
    let p = c.args.asking.now.program.now in
    least-reasons p (p.assumptions ++ c.args.asking.now.literals.now) c.args.literals.now c.args.asking.now.units c.in_ok-bare.bare
    c.least_core-core.result c.requires.askable.itself (nothing-assumed p _ c.requires.askable.sound) c.in_ok-bare.ensures c.requires.enough
    c.least_core-core.ensures.least
