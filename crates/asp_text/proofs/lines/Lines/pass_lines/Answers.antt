use Rattle.std.proofs.Common.{length, sym, ap, ◌∙◌, arith}
use Rattle.std.specs.Prelude.{count_by}
use Rattle.asp_text.specs.Lines.{is_lf, tail}
use Rattle.asp_text.specs.Unread.{Unread}
use Rattle.asp_text.proofs.Cutting.{passed, all_passed}
use Rattle.asp_text.proofs.lines.Lines.pass_lines.Goals as goal

pub loop-line-smaller : goal.loop-line-smaller
loop-line-smaller c =
    let after = rw c.in-Some.is at c.next_line.follows.holds-at-none in
    let p = passed c.loop-line.self.bytes _ c.in-Some.ensures.line in
    omega (arith, ap (λ (u : Unread). length u.bytes) after, p.shorter)

pub loop-line-preserved : goal.loop-line-preserved
loop-line-preserved c =
    let after = rw c.in-Some.is at c.next_line.follows.holds-at-none in
    let p = passed c.loop-line.self.bytes _ c.in-Some.ensures.line in
    record {
      same = ap (λ (u : Unread). tail u.bytes) after ∙ sym p.same ∙ c.loop-line.invariant.same;
      counted = omega (arith, ap (λ (u : Unread). u.given) after, ap (λ (u : Unread). count_by is_lf u.bytes) after, p.counted, c.loop-line.invariant.counted);
      fed = ap (λ (u : Unread). u.fed) after ∙ c.loop-line.invariant.fed;
    }

pub returns : goal.returns
returns c = all_passed _ c.loop-line.self c.args.self.now c.in_default.ensures.line (rw c.in_default.is at c.next_line.follows.holds-at-none)
    c.loop-line.invariant.same c.loop-line.invariant.counted c.loop-line.invariant.fed
