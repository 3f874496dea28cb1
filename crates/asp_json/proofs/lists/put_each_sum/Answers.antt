use Rattle.std.proofs.Common.{arith}
use Rattle.std.specs.Prelude.{pos}
use Rattle.std.specs.Fmt.{signed_decimal}
use Rattle.asp_buffer.proofs.OutLaws.{midway_fails, midway_more}
use Rattle.asp_json.proofs.ListLaws.{commas-turn_or}
use Rattle.asp_json.proofs.lists.put_each_sum.Goals as goal

pub returns-in_err-put_sum : goal.returns-in_err-put_sum
returns-in_err-put_sum g c = midway_fails _ _ _ _ _ _ _ _ _ _ c.loop-sum.invariant c.in_err-put_sum.ensures
    (commas-turn_or signed_decimal c.loop-sum.any c.args.sums.now c.loop-sum.sum-index (pos 0) (omega arith)) c.from_residual.ensures.1

pub loop-sum-preserved : goal.loop-sum-preserved
loop-sum-preserved g c = midway_more _ _ _ _ _ _ _ _ c.loop-sum.invariant c.in_ok-put_sum.ensures
    (commas-turn_or signed_decimal c.loop-sum.any c.args.sums.now c.loop-sum.sum-index (pos 0) (omega arith))
