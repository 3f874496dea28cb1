use Rattle.asp_source.proofs.GatherLaws.{gathers_same, gathers_then, gathers_less, looked_at}
use Rattle.asp_source.proofs.gather.gather.Goals as goal

pub loop-place-init : goal.loop-place-init
loop-place-init c = (c.requires.gathering, gathers_same c.args.region.now.values.now c.args.sources.now c.args.loose.now c.args.waiting.now)

pub release_from-requires-clause-gathering : goal.release_from-requires-clause-gathering
release_from-requires-clause-gathering c =
    looked_at c.args.region.now.compiled.now c.args.region.now.components.now c.args.region.now.values.now c.args.region.now.component
    c.args.region.now.ranks.now.ranks c.loop-place.sources c.loop-place.loose c.loop-place.waiting c.loop-place.joined c.pop.new.self
    c.in-Some.place c.program-program.ensures.sound c.in-Some.ensures.some c.loop-place.invariant.0

pub loop-place-preserved : goal.loop-place-preserved
loop-place-preserved c = (
  c.draw_from.ensures.gathering,
  gathers_then c.args.region.now.values.now c.args.sources.now c.args.loose.now c.args.waiting.now c.loop-place.sources c.loop-place.loose
      c.loop-place.waiting c.draw_from.new.sources c.draw_from.new.loose c.draw_from.new.waiting c.loop-place.invariant.1
      (gathers_then c.args.region.now.values.now c.loop-place.sources c.loop-place.loose c.loop-place.waiting c.loop-place.sources c.loop-place.loose
      c.pop.new.self c.draw_from.new.sources c.draw_from.new.loose c.draw_from.new.waiting
      (gathers_less c.args.region.now.values.now c.loop-place.sources c.loop-place.loose c.loop-place.waiting c.pop.new.self c.in-Some.place c.in-Some.ensures.some c.in-Some.ensures.fewer)
      (gathers_then c.args.region.now.values.now c.loop-place.sources c.loop-place.loose c.pop.new.self c.release_from.new.sources
      c.release_from.new.loose c.release_from.new.waiting c.draw_from.new.sources c.draw_from.new.loose c.draw_from.new.waiting
      c.release_from.ensures.gathers c.draw_from.ensures.gathers)),
)
