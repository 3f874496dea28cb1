use Rattle.std.proofs.Common.{arith}
use Rattle.asp_bound.proofs.RaiserLaws.{none-by}
use Rattle.asp_bound.proofs.raisers.place_of.Goals as goal

pub returns-clause-none : goal.returns-clause-none
returns-clause-none c = none-by c.args.var c.args.vars.now (λ k lt. c.loop-left.invariant.1 k (omega arith) lt)
