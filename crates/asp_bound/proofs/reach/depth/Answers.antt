use Rattle.std.proofs.Common.{arith}
use Rattle.asp_bound.proofs.StepLaws.{deepening-past}
use Rattle.asp_bound.proofs.reach.depth.Goals as goal

pub returns-then-level-sums-clause-depth : goal.returns-then-level-sums-clause-depth
returns-then-level-sums-clause-depth c = deepening-past c.args.sums.now c.args.bound.now c.loop-level.level (omega arith) (omega arith) c.loop-level.invariant.1
