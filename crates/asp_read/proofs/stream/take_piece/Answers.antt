use Rattle.std.proofs.Common.{subst, ◌∙◌}
use Rattle.std.proofs.lemmas.Result.{IfErr-weaker, IfOk-weaker}
use Rattle.asp_read.specs.Stream.{FailsAs}
use Rattle.asp_read.proofs.Streaming.{fed_on}
use Rattle.asp_read.proofs.stream.take_piece.Goals as goal

pub returns-clause-fails : goal.returns-clause-fails
returns-clause-fails g c = IfErr-weaker c.judge_lines.result _ _
    (λ e h room rest. subst (λ o. FailsAs e o)
    (fed_on g.J.Judge.format c.args.lines.now c.feed.new.self c.args.piece.now _ c.args.reader.now c.in_ok-feed.ensures.ok room rest)
    (h room rest)) c.judge_lines.ensures.fails

pub returns-clause-goes_on : goal.returns-clause-goes_on
returns-clause-goes_on g c = IfOk-weaker c.judge_lines.result _ _
    (λ r h room rest. h room rest
    ∙ fed_on g.J.Judge.format c.args.lines.now c.feed.new.self c.args.piece.now _ c.args.reader.now c.in_ok-feed.ensures.ok room rest)
    c.judge_lines.ensures.goes_on
