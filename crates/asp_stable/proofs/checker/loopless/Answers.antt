use Rattle.asp_stable.proofs.FoundingLaws.{positive_loopless}
use Rattle.asp_stable.proofs.checker.loopless.Goals as goal

pub returns-clause-loopless : goal.returns-clause-loopless
returns-clause-loopless c =
    positive_loopless c.args.compiled.now c.as_slice-ranks.result.now c.in_ok-flat.flat.items c.program-program.ensures.sound (c.are_ranks.ensures c.if-not-are_ranks.false) c.in_ok-flat.ensures
