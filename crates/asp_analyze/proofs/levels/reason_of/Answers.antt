use Rattle.std.proofs.Common.{arith}
use Rattle.asp_analyze.proofs.StandLaws.{on_small, on_has}
use Rattle.asp_analyze.proofs.levels.reason_of.Goals as goal

pub reason_of-requires-clause-small : goal.reason_of-requires-clause-small
reason_of-requires-clause-small c =
    let t = c.args.trail.now in
    omega (arith, (on_small t.vars t.entries c.args.lit c.len-len.ensures.ordered c.requires).1, c.var.ensures)

pub reason_of-requires-clause-has : goal.reason_of-requires-clause-has
reason_of-requires-clause-has c =
    let t = c.args.trail.now in
    rw c.var.ensures (on_has t.vars t.entries c.args.lit c.len-len.ensures.ordered c.requires)
