use Rattle.std.proofs.Common.{◌∙◌}
use Rattle.asp_analyze.proofs.GoesLaws.{goes_join}
use Rattle.asp_analyze.proofs.minimise.minimise.Goals as goal

pub looks-preserved : goal.looks-preserved
looks-preserved g c = record {
  some = (c.looks.invariant.some.0, c.in_ok-visit.ensures.way c.looks.invariant.some.0 c.looks.invariant.some.1);
  way = λ from w. c.in_ok-visit.ensures.way from (c.looks.invariant.way from w);
  path = c.in_ok-visit.ensures.path;
  goes = goes_join c.args.trail.now.entries c.args.marks.now c.looks.marks c.visit.new.marks c.looks.invariant.goes c.in_ok-visit.ensures.goes;
  size = c.in_ok-visit.ensures.size ∙ c.looks.invariant.size;
}
