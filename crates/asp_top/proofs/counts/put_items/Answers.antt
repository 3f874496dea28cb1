use Rattle.std.proofs.Common.{arith, flat_map, ap}
use Rattle.asp_buffer.proofs.OutLaws.{drop_turn_or, midway_more, midway_fails}
use Rattle.asp_top.specs.declared.counts.Item.{Item}
use Rattle.asp_top.specs.declared.counts.What.TheVariants.{Spent}
use Rattle.asp_top.specs.Counts.{item_text}
use Rattle.asp_top.proofs.counts.put_items.Goals as goal

abbrev first : Item
first = record { what = Spent; number = 0 }

pub returns-in_err-put_item : goal.returns-in_err-put_item
returns-in_err-put_item g c = midway_fails _ _ _ _ _ _ _ _ _ _ c.loop-item.invariant c.in_err-put_item.ensures
    (ap (flat_map item_text) (drop_turn_or c.args.items.now c.loop-item.item-index first (omega arith))) c.from_residual.ensures.1

pub loop-item-preserved : goal.loop-item-preserved
loop-item-preserved g c = midway_more _ _ _ _ _ _ _ _ c.loop-item.invariant c.in_ok-put_item.ensures
    (ap (flat_map item_text) (drop_turn_or c.args.items.now c.loop-item.item-index first (omega arith)))
