use Rattle.std.proofs.Common.{◌∙◌, Some, ap, length}
use Rattle.asp_model.specs.Sets.{Atoms}
use Rattle.asp_search.proofs.CoverLaws.{counted-none, counted-some}
use Rattle.asp_search.proofs.search.count_unshown.Goals as goal

pub returns-then-is_some : goal.returns-then-is_some
returns-then-is_some c =
    let k = c.args.known.now in
    ap (λ (L : Atoms). Some (length L)) c.unshown.ensures
    ∙ counted-some k.reasoning k.program k.sets c.is_some.result c.is_some.ensures c.if-is_some.true

pub returns-else-is_some : goal.returns-else-is_some
returns-else-is_some c =
    let k = c.args.known.now in
    counted-none k.reasoning k.program k.sets c.is_some.result c.is_some.ensures c.if-is_some.false
