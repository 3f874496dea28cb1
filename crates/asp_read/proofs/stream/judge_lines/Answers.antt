use Rattle.std.proofs.Common.{length, ap, subst, ◌∙◌, arith}
use Rattle.std.proofs.lemmas.Result.{err_from_is_err_and}
use Rattle.asp_text.specs.Unread.{Unread}
use Rattle.asp_read.specs.Stream.{FailsAs}
use Rattle.asp_read.proofs.Streaming.{line_step, line_fails, shorter}
use Rattle.asp_read.proofs.stream.judge_lines.Goals as goal

pub loop-line-preserved : goal.loop-line-preserved
loop-line-preserved g c =
    let after = rw c.in-Some.is at c.next_line.follows.holds-at-none in
    record {
      same = λ room rest. line_step g.J.Judge.format c.loop-line.lines _ c.loop-line.reader c.judge_numbered.new.reader c.in-Some.line.number
          c.in-Some.line.bytes.now c.in-Some.ensures.line after c.in-Some.ensures.number c.in_ok-judge_numbered.ensures.reader room rest
          ∙ c.loop-line.invariant.same room rest;
      fed = ap (λ (u : Unread). u.fed) after ∙ c.loop-line.invariant.fed;
      shorter = omega (arith, ap (λ (u : Unread). length u.bytes) after, shorter c.loop-line.lines.bytes c.in-Some.line.bytes.now c.in-Some.ensures.line);
    }

pub loop-line-smaller : goal.loop-line-smaller
loop-line-smaller g c =
    let after = rw c.in-Some.is at c.next_line.follows.holds-at-none in
    omega (arith, ap (λ (u : Unread). length u.bytes) after, shorter c.loop-line.lines.bytes c.in-Some.line.bytes.now c.in-Some.ensures.line)

pub returns-in_err-judge_numbered-clause-shorter : goal.returns-in_err-judge_numbered-clause-shorter
returns-in_err-judge_numbered-clause-shorter g c =
    let after = rw c.in-Some.is at c.next_line.follows.holds-at-none in
    omega (arith, ap (λ (u : Unread). length u.bytes) after, shorter c.loop-line.lines.bytes c.in-Some.line.bytes.now c.in-Some.ensures.line)

pub returns-in_err-judge_numbered-clause-fails : goal.returns-in_err-judge_numbered-clause-fails
returns-in_err-judge_numbered-clause-fails g c =
    let p = err_from_is_err_and c.from_residual.result c.from_residual.ensures.1 in
    rw (p.1, p.2) (λ room rest. subst (λ o. FailsAs c.in_err-judge_numbered.field-0.0 o) (c.loop-line.invariant.same room rest)
    (line_fails g.J.Judge.format c.loop-line.lines c.loop-line.reader c.in_err-judge_numbered.field-0.0 c.in-Some.line.number c.in-Some.line.bytes.now
    c.in-Some.ensures.line c.in-Some.ensures.number c.in_err-judge_numbered.ensures.reader room rest))
