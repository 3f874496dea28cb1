use Rattle.asp_source.proofs.GatherLaws.{gathers_same, gathers_then}
use Rattle.asp_source.proofs.gather.draw_from.Goals as goal

pub loop-body-init : goal.loop-body-init
loop-body-init c = (c.requires.gathering, gathers_same c.args.region.now.values.now c.args.sources.now c.args.loose.now c.args.waiting.now)

pub loop-body-preserved : goal.loop-body-preserved
loop-body-preserved c = (
  c.draw_body.ensures.gathering,
  gathers_then c.args.region.now.values.now c.args.sources.now c.args.loose.now c.args.waiting.now c.loop-body.sources c.loop-body.loose
      c.loop-body.waiting c.draw_body.new.sources c.draw_body.new.loose c.draw_body.new.waiting c.loop-body.invariant.1 c.draw_body.ensures.gathers,
)
