use Rattle.std.proofs.Common.{arith}
use Rattle.std.proofs.lemmas.Int.{ints}
use Rattle.asp_bound.specs.Rises.{raised}
use Rattle.asp_bound.proofs.KeptLaws.{raised_as}
use Rattle.asp_bound.proofs.NeededLaws.{lowered-at}
use Rattle.asp_bound.proofs.needed.add_needed.Goals as goal

pub returns-else-not-leave_out-clause-fallen : goal.returns-else-not-leave_out-clause-fallen
returns-else-not-leave_out-clause-fallen c = λ j lt.
    omega (arith, ints, lowered-at (λ j. raised c.row-row.result.now j c.truth.result) c.args.sums.now c.leave_out.new.sums c.if-not-leave_out.ensures.sums j lt)

pub returns-else-not-leave_out-clause-least : goal.returns-else-not-leave_out-clause-least
returns-else-not-leave_out-clause-least c = λ j lt.
    let at = raised_as c.args.rows.now c.args.lit.var c.args.lit.truth c.row-row.result.now c.var.result c.truth.result c.row-row.ensures c.var.ensures c.truth.ensures j in
    omega (arith, ints, at, lowered-at (λ j. raised c.row-row.result.now j c.truth.result) c.args.sums.now c.leave_out.new.sums c.if-not-leave_out.ensures.sums j lt)
