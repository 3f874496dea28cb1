use Rattle.std.proofs.Common.{◌≡◌, ◌+◌, ap, arith}
use Rattle.asp_text.specs.Unread.{Unread}
use Rattle.asp_text.proofs.Cutting.{tail_none}
use Rattle.asp_read.proofs.Streaming.{last_line_ends, last_line_fails, no_last_line, gives_itself}
use Rattle.asp_read.proofs.stream.finish.Goals as goal

pub returns-in-Err-clause-text : goal.returns-in-Err-clause-text
returns-in-Err-clause-text g c =
    let t = tail_none c.args.lines.now.bytes c.requires in
    let number : c.in-Some.line.number ≡ c.args.lines.now.given + 1 = omega (arith, c.in-Some.ensures.number, t.1) in
    λ room. last_line_fails g.J.Judge.format c.args.lines.now c.args.reader c.in-Err.error c.in-Some.line.number room c.in-Some.line.bytes.now
    c.requires (rw t.0 at c.in-Some.ensures.line) number c.in-Err.ensures.reader

pub returns-in-Ok-clause-text : goal.returns-in-Ok-clause-text
returns-in-Ok-clause-text g c =
    let t = tail_none c.args.lines.now.bytes c.requires in
    let number : c.in-Some.line.number ≡ c.args.lines.now.given + 1 = omega (arith, c.in-Some.ensures.number, t.1) in
    λ room. rw (
      c.end.ensures.end,
      last_line_ends g.J.Judge.format c.args.lines.now c.args.reader c.judge_numbered.new.reader c.in-Some.line.number room
          c.in-Some.line.bytes.now c.requires (rw t.0 at c.in-Some.ensures.line) number c.in-Ok.ensures.reader,
    ) (gives_itself _)

pub returns-in-None-clause-text : goal.returns-in-None-clause-text
returns-in-None-clause-text g c =
    let t = tail_none c.args.lines.now.bytes c.requires in
    let after = rw c.in-None.is at c.finish.follows.holds-at-none in
    let n : c.count.result ≡ c.args.lines.now.given = omega (arith, c.count.ensures.count, ap (λ (u : Unread). u.given) after, t.1) in
    λ room. rw (c.end-in-None.ensures.end, n, no_last_line g.J.Judge.format c.args.lines.now c.args.reader room c.requires (rw t.0 at c.in-None.ensures.line)) (gives_itself _)
