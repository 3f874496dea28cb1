use Rattle.asp_source.proofs.FoundLaws.{founds_same, founds_then, room_then}
use Rattle.asp_source.proofs.founding.spread_from.Goals as goal

pub loop-occurrence-init : goal.loop-occurrence-init
loop-occurrence-init c = founds_same c.args.compiled.now c.args.values.now c.args.sources.now c.args.ranks.now c.args.loose.now c.args.waiting.now

pub loop-occurrence-preserved : goal.loop-occurrence-preserved
loop-occurrence-preserved c =
    founds_then c.args.compiled.now c.args.values.now c.args.sources.now c.args.ranks.now c.args.loose.now c.args.waiting.now
    c.loop-occurrence.sources c.loop-occurrence.ranks c.loop-occurrence.loose c.loop-occurrence.waiting c.found_heads.new.sources
    c.found_heads.new.ranks c.found_heads.new.loose c.found_heads.new.waiting c.loop-occurrence.invariant c.found_heads.ensures

pub found_heads-requires-clause-room : goal.found_heads-requires-clause-room
found_heads-requires-clause-room c =
    room_then c.args.compiled.now c.args.values.now c.args.sources.now c.args.ranks.now c.args.loose.now c.args.waiting.now c.loop-occurrence.sources
    c.loop-occurrence.ranks c.loop-occurrence.loose c.loop-occurrence.waiting c.requires.room c.loop-occurrence.invariant
