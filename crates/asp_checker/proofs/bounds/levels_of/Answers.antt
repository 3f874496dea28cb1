use Rattle.std.proofs.Common.{pos, get_or, w32, rules, sym}
use Rattle.std.proofs.lemmas.Int.{to_z-of_z}
use Rattle.std.proofs.lemmas.List.{get_or_default}
use Rattle.asp_bound.proofs.WeightLaws.{weights_as}
use Rattle.asp_checker.proofs.BoundLaws.{levels-more}
use Rattle.asp_checker.proofs.bounds.levels_of.Goals as goal

pub loop-priority-preserved : goal.loop-priority-preserved
loop-priority-preserved c =
    let i = c.loop-priority.priority-index in
    let q = get_or c.args.list.now i (pos 0) in
    let plain = to_z-of_z w32 (get_or c.args.list.now i (pos 0)) (search rules) in
    let is = sym (get_or_default c.args.list.now i q (pos 0) c.loop-priority-test.true) in
    levels-more c.args.compiled.now c.args.list.now i q c.loop-priority.levels.items c.push.new.self.items c.from_vec.result c.loop-priority-test.true is c.loop-priority.invariant
    (weights_as c.args.compiled.now q _ c.from_vec.result c.in_ok-weights.weights.items plain c.from_vec.ensures c.in_ok-weights.ensures.weights) c.in_ok-push.ensures.items
