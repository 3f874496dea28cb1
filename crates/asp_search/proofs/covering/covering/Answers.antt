use Rattle.asp_search.proofs.CoverLaws.{all_stand}
use Rattle.asp_search.proofs.covering.covering.Goals as goal

pub all_unshown-requires : goal.all_unshown-requires
all_unshown-requires c =
    let k = c.args.known.now in
    all_stand k.reasoning k.program c.args.compiled.now k.sets c.unshown.result.now c.requires c.unshown.ensures
