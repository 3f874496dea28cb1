use Rattle.std.proofs.lemmas.Result.{err_from_is_err_and}
use Rattle.asp_checker.proofs.StreamLaws.{head_failed, head_broken, head_refused, head_goes}
use Rattle.asp_checker.proofs.stream.judge.Goals as goal

pub returns-in_err-next-clause-says : goal.returns-in_err-next-clause-says
returns-in_err-next-clause-says g c =
    let p = err_from_is_err_and c.from_residual.result c.from_residual.ensures.1 in
    rw (p.1, p.2)
    (head_failed c.args.compiled.now (g.S.Source.left c.args.source.now) (g.S.Source.left c.next_line.new.source) c.args.reader.now
    c.next_line.new.reader c.in_err-next.field-0.0 c.requires.head c.in_err-next.ensures.next)

pub returns-then-not-next-clause-says : goal.returns-then-not-next-clause-says
returns-then-not-next-clause-says g c =
    rw c.refused.ensures
    (head_broken c.args.compiled.now (g.S.Source.left c.args.source.now) (g.S.Source.left c.next_line.new.source) c.args.reader.now
    c.next_line.new.reader c.requires.head (rw c.if-not-next.true at c.in_ok-next.ensures.next))

pub returns-in-Some-clause-says : goal.returns-in-Some-clause-says
returns-in-Some-clause-says g c =
    head_goes c.args.compiled.now (g.S.Source.left c.args.source.now) (g.S.Source.left c.next_line.new.source) c.args.reader.now
    c.next_line.new.reader c.in-Some.sought c.judge_body.result c.requires.head (rw c.if-not-next.false at c.in_ok-next.ensures.next)
    (rw c.line.ensures at c.in-Some.ensures) c.judge_body.ensures.says

pub returns-in-None-clause-says : goal.returns-in-None-clause-says
returns-in-None-clause-says g c =
    rw c.refused-in-None.ensures
    (head_refused c.args.compiled.now (g.S.Source.left c.args.source.now) (g.S.Source.left c.next_line.new.source) c.args.reader.now
    c.next_line.new.reader c.requires.head (rw c.if-not-next.false at c.in_ok-next.ensures.next) (rw c.line.ensures at c.in-None.ensures))
