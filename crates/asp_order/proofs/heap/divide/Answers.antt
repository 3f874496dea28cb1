use Rattle.std.proofs.Common.{◌/◌, ◌^◌, ◌<◌, length, get_or, arith}
use Rattle.std.proofs.lemmas.List.{get_or_default}
use Rattle.std.proofs.lemmas.List.Edits.{map_over_more}
use Rattle.asp_order.proofs.heap.divide.Goals as goal

pub loop-activity-preserved : goal.loop-activity-preserved
loop-activity-preserved c =
    let i = c.loop-activity.activity-index in
    let ys = c.loop-activity.activities in
    let lt : i < length c.args.activities.now = omega arith in
    map_over_more (λ a. a / 2 ^ 30) c.args.activities.now ys i (get_or ys i 0) lt c.loop-activity.invariant
    (get_or_default ys i 0 (get_or ys i 0) (omega arith))
