use Rattle.std.proofs.Common.{◌≤◌, length, rules, arith, sym}
use Rattle.asp_text.proofs.Cutting.{at_le, found_none, cut_at}
use Rattle.asp_text.proofs.lines.line_end.Goals as goal

pub slice_bounds-first_lf-count : goal.slice_bounds-first_lf-count
slice_bounds-first_lf-count c = omega (arith, at_le c.args.text.now)

pub slice_bounds-first_lf-start : goal.slice_bounds-first_lf-start
slice_bounds-first_lf-start c = let h : c.args.clear ≤ length c.args.text.now = omega (arith, at_le c.args.text.now) in search rules

pub returns-in-None-clause-cut : goal.returns-in-None-clause-cut
returns-in-None-clause-cut c = sym (found_none c.args.text.now c.args.clear c.requires c.in-None.ensures)

pub returns-in-Some-clause-cut : goal.returns-in-Some-clause-cut
returns-in-Some-clause-cut c = cut_at c.args.text.now c.args.clear c.in-Some.n c.requires c.in-Some.ensures
