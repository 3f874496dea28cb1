use Rattle.std.proofs.Common.{sym}
use Rattle.asp_search.proofs.BlockLaws.{unvalued_no_reason}
use Rattle.asp_search.proofs.blocking.is_implied_by.Goals as goal

pub returns-in-None : goal.returns-in-None
returns-in-None c = λ no.
    let t = c.args.trail.now in
    unvalued_no_reason t.vars t.entries c.args.var c.args.id c.len-len.ensures.ordered (sym c.in-None.ensures.value)
