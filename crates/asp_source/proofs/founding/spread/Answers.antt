use Rattle.asp_source.proofs.FoundLaws.{founds_same, founds_then, founds_less, room_then}
use Rattle.asp_source.proofs.founding.spread.Goals as goal

pub loop-place-init : goal.loop-place-init
loop-place-init c = founds_same c.args.compiled.now c.args.values.now c.args.sources.now c.args.ranks.now c.args.loose.now c.args.waiting.now

pub loop-place-preserved : goal.loop-place-preserved
loop-place-preserved c =
    let less =
    founds_less c.args.compiled.now c.args.values.now c.loop-place.sources c.loop-place.ranks c.loop-place.loose c.loop-place.waiting
    c.pop.new.self c.in-Some.place c.in-Some.ensures.some c.in-Some.ensures.fewer in
    founds_then c.args.compiled.now c.args.values.now c.args.sources.now c.args.ranks.now c.args.loose.now c.args.waiting.now c.loop-place.sources
    c.loop-place.ranks c.loop-place.loose c.loop-place.waiting c.spread_from.new.sources c.spread_from.new.ranks c.spread_from.new.loose
    c.spread_from.new.waiting c.loop-place.invariant
    (founds_then c.args.compiled.now c.args.values.now c.loop-place.sources c.loop-place.ranks c.loop-place.loose c.loop-place.waiting
    c.loop-place.sources c.loop-place.ranks c.loop-place.loose c.pop.new.self c.spread_from.new.sources c.spread_from.new.ranks
    c.spread_from.new.loose c.spread_from.new.waiting less c.spread_from.ensures)

pub spread_from-requires-clause-room : goal.spread_from-requires-clause-room
spread_from-requires-clause-room c =
    let less =
    founds_less c.args.compiled.now c.args.values.now c.loop-place.sources c.loop-place.ranks c.loop-place.loose c.loop-place.waiting
    c.pop.new.self c.in-Some.place c.in-Some.ensures.some c.in-Some.ensures.fewer in
    room_then c.args.compiled.now c.args.values.now c.loop-place.sources c.loop-place.ranks c.loop-place.loose c.loop-place.waiting
    c.loop-place.sources c.loop-place.ranks c.loop-place.loose c.pop.new.self
    (room_then c.args.compiled.now c.args.values.now c.args.sources.now c.args.ranks.now c.args.loose.now c.args.waiting.now c.loop-place.sources
    c.loop-place.ranks c.loop-place.loose c.loop-place.waiting c.requires c.loop-place.invariant) less
