use Rattle.std.proofs.Common.{◌∙◌}
use Rattle.asp_analyze.proofs.GoesLaws.{goes_join}
use Rattle.asp_analyze.proofs.settle.settle.Goals as goal

pub loop-i-preserved : goal.loop-i-preserved
loop-i-preserved g c = record {
  some = (c.loop-i.invariant.some.0, c.in_ok-settle_at.ensures.way c.loop-i.invariant.some.0 c.loop-i.invariant.some.1);
  way = λ from w. c.in_ok-settle_at.ensures.way from (c.loop-i.invariant.way from w);
  goes = goes_join c.args.trail.now.entries c.args.marks.now c.loop-i.marks c.settle_at.new.marks c.loop-i.invariant.goes c.in_ok-settle_at.ensures.goes;
  settled = c.in_ok-settle_at.ensures.settled c.loop-i.invariant.settled;
  size = c.in_ok-settle_at.ensures.size ∙ c.loop-i.invariant.size;
}
