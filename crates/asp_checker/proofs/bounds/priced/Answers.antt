use Rattle.std.proofs.Common.{◌+◌, arith}
use Rattle.asp_checker.proofs.BoundLaws.{priced-next, wide}
use Rattle.asp_checker.proofs.bounds.priced.Goals as goal

pub add_priced-requires : goal.add_priced-requires
add_priced-requires c = wide c.args.levels.now c.args.vars (c.loop-at.at + 1) (omega (arith, c.loop-at-test.true)) c.requires.weights

pub loop-at-preserved : goal.loop-at-preserved
loop-at-preserved c = priced-next c.args.levels.now c.loop-at.at c.loop-at.list.items c.add_priced.new.list.items c.loop-at.invariant c.in_ok-add_priced.ensures
