use Rattle.std.proofs.Common.{pos, arith, FitsSigned, w32, get_or, rules}
use Rattle.std.proofs.lemmas.Int.{ints, to_z-of_z}
use Rattle.asp_settle.proofs.WeightLaws.{weight-more, weighted-at}
use Rattle.asp_settle.proofs.bodies.settled_weight.Goals as goal

pub item_weight-total-requires : goal.item_weight-total-requires
item_weight-total-requires c =
    let weight : FitsSigned w32 (get_or c.args.items.now c.loop-literal.literal-index (pos 0, pos 0)).1 = search rules in
    simp to_z-of_z (weighted-at c.args.items.now c.loop-literal.literal-index (pos 0, pos 0) c.requires.weighted c.loop-literal-test.true)

pub loop-literal-preserved : goal.loop-literal-preserved
loop-literal-preserved c =
    let more = weight-more c.args.facts.now c.args.items.now c.loop-literal.literal-index (pos 0, pos 0) c.loop-literal-test.true in
    let literal : FitsSigned w32 (get_or c.args.items.now c.loop-literal.literal-index (pos 0, pos 0)).0 = search rules in
    let weight : FitsSigned w32 (get_or c.args.items.now c.loop-literal.literal-index (pos 0, pos 0)).1 = search rules in
    let added = simp to_z-of_z at c.item_weight-total.ensures.weight in
    record { sum = omega (arith, ints, more, added); low = omega (arith, ints); high = omega (arith, ints) }
