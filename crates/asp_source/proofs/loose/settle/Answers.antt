use Rattle.asp_source.proofs.FoundLaws.{founds_same, founds_then, room_then}
use Rattle.asp_source.proofs.loose.settle.Goals as goal

pub rounds-init : goal.rounds-init
rounds-init c = founds_same c.args.compiled.now c.args.values.now c.args.sources.now c.args.ranks.now c.args.loose.now c.args.waiting.now

pub rounds-preserved : goal.rounds-preserved
rounds-preserved c =
    founds_then c.args.compiled.now c.args.values.now c.args.sources.now c.args.ranks.now c.args.loose.now c.args.waiting.now c.rounds.sources
    c.rounds.ranks c.rounds.loose c.rounds.waiting c.spread.new.sources c.spread.new.ranks c.spread.new.loose c.spread.new.waiting
    c.rounds.invariant
    (founds_then c.args.compiled.now c.args.values.now c.rounds.sources c.rounds.ranks c.rounds.loose c.rounds.waiting c.sweep-dropped.new.sources
    c.sweep-dropped.new.ranks c.sweep-dropped.new.loose c.sweep-dropped.new.waiting c.spread.new.sources c.spread.new.ranks c.spread.new.loose
    c.spread.new.waiting c.sweep-dropped.ensures.founds c.spread.ensures)

pub returns-clause-founds : goal.returns-clause-founds
returns-clause-founds c =
    founds_then c.args.compiled.now c.args.values.now c.args.sources.now c.args.ranks.now c.args.loose.now c.args.waiting.now c.rounds.sources
    c.rounds.ranks c.rounds.loose c.rounds.waiting c.sweep-dropped.new.sources c.sweep-dropped.new.ranks c.sweep-dropped.new.loose
    c.sweep-dropped.new.waiting c.rounds.invariant c.sweep-dropped.ensures.founds

pub sweep-dropped-requires-clause-room : goal.sweep-dropped-requires-clause-room
sweep-dropped-requires-clause-room c =
    room_then c.args.compiled.now c.args.values.now c.args.sources.now c.args.ranks.now c.args.loose.now c.args.waiting.now c.rounds.sources
    c.rounds.ranks c.rounds.loose c.rounds.waiting c.requires.room c.rounds.invariant

pub spread-requires : goal.spread-requires
spread-requires c =
    room_then c.args.compiled.now c.args.values.now c.rounds.sources c.rounds.ranks c.rounds.loose c.rounds.waiting c.sweep-dropped.new.sources
    c.sweep-dropped.new.ranks c.sweep-dropped.new.loose c.sweep-dropped.new.waiting
    (room_then c.args.compiled.now c.args.values.now c.args.sources.now c.args.ranks.now c.args.loose.now c.args.waiting.now c.rounds.sources
    c.rounds.ranks c.rounds.loose c.rounds.waiting c.requires.room c.rounds.invariant) c.sweep-dropped.ensures.founds
