use Rattle.std.proofs.Common.{false}
use Rattle.std.proofs.Common.{set, get_or, arith}
use Rattle.asp_order.proofs.PlacedLaws.{placed_front}
use Rattle.asp_order.proofs.sift.replace_first.Goals as goal

pub sink-requires-clause-placed : goal.sink-requires-clause-placed
sink-requires-clause-placed c = (
  set c.requires.placed.0 (get_or c.args.items.now 0 0) false,
  placed_front c.requires.placed.0 c.args.items.now c.put.new.items c.args.places.now c.put.new.places c.args.last c.requires.placed.1 c.requires.some
      (omega arith) (omega arith) c.put.ensures.item c.put.ensures.items c.put.ensures.place c.put.ensures.places,
)

pub returns-clause-placed : goal.returns-clause-placed
returns-clause-placed c m p =
    c.sink.ensures.placed (set m (get_or c.args.items.now 0 0) false)
    (placed_front m c.args.items.now c.put.new.items c.args.places.now c.put.new.places c.args.last p c.requires.some
    (omega arith) (omega arith) c.put.ensures.item c.put.ensures.items c.put.ensures.place c.put.ensures.places)
