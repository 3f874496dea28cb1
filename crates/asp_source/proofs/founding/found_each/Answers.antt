use Rattle.asp_source.proofs.FoundLaws.{founds_same, founds_then, room_then}
use Rattle.asp_source.proofs.founding.found_each.Goals as goal

pub loop-var-init : goal.loop-var-init
loop-var-init c = founds_same c.args.compiled.now c.args.values.now c.args.sources.now c.args.ranks.now c.args.loose.now c.args.waiting.now

pub loop-var-preserved : goal.loop-var-preserved
loop-var-preserved c =
    founds_then c.args.compiled.now c.args.values.now c.args.sources.now c.args.ranks.now c.args.loose.now c.args.waiting.now c.loop-var.sources
    c.loop-var.ranks c.loop-var.loose c.loop-var.waiting c.found_one.new.sources c.found_one.new.ranks c.found_one.new.loose
    c.found_one.new.waiting c.loop-var.invariant c.found_one.ensures.founds

pub found_one-requires-clause-room : goal.found_one-requires-clause-room
found_one-requires-clause-room c =
    room_then c.args.compiled.now c.args.values.now c.args.sources.now c.args.ranks.now c.args.loose.now c.args.waiting.now c.loop-var.sources
    c.loop-var.ranks c.loop-var.loose c.loop-var.waiting c.requires.room c.loop-var.invariant
