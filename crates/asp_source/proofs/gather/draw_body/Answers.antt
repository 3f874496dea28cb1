use Rattle.asp_source.proofs.GatherLaws.{gathers_same, gathers_then}
use Rattle.asp_source.proofs.gather.draw_body.Goals as goal

pub loop-lit-init : goal.loop-lit-init
loop-lit-init c = (c.requires.gathering, gathers_same c.args.region.now.values.now c.args.sources.now c.args.loose.now c.args.waiting.now)

pub loop-lit-preserved : goal.loop-lit-preserved
loop-lit-preserved c = (
  c.draw.ensures.gathering,
  gathers_then c.args.region.now.values.now c.args.sources.now c.args.loose.now c.args.waiting.now c.loop-lit.sources c.loop-lit.loose
      c.loop-lit.waiting c.draw.new.sources c.draw.new.loose c.draw.new.waiting c.loop-lit.invariant.1 c.draw.ensures.gathers,
)

pub returns-then-holds-clause-gathers : goal.returns-then-holds-clause-gathers
returns-then-holds-clause-gathers c = gathers_same c.args.region.now.values.now c.args.sources.now c.args.loose.now c.args.waiting.now
