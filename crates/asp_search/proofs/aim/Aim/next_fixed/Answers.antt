use Rattle.asp_search.proofs.CoverLaws.{all_stand}
use Rattle.asp_search.proofs.aim.Aim.next_fixed.Goals as goal

pub first_open-lit-requires-clause-atoms : goal.first_open-lit-requires-clause-atoms
first_open-lit-requires-clause-atoms c =
    let k = c.args.known.now in
    all_stand k.reasoning k.program c.args.compiled.now k.sets c.unshown.result.now c.requires.program c.unshown.ensures
