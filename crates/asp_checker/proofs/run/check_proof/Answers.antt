use Rattle.std.proofs.Common.{[]}
use Rattle.std.proofs.lemmas.Result.{err_from_is_err_and}
use Rattle.asp_proof.proofs.StreamLaws.{comes_any, comes_so}
use Rattle.asp_checker.proofs.RunLaws.{text_judged_behind}
use Rattle.asp_checker.proofs.run.check_proof.Goals as goal

pub returns-in_err-reader-clause-says : goal.returns-in_err-reader-clause-says
returns-in_err-reader-clause-says g c =
    let p = err_from_is_err_and c.from_residual.result c.from_residual.ensures.1 in
    rw (p.1, p.2) (comes_any (g.S.Source.left c.args.source.now) [] _ (λ rest. tt))

pub returns-in_err-found-clause-says : goal.returns-in_err-found-clause-says
returns-in_err-found-clause-says g c =
    let p = err_from_is_err_and c.from_residual-in_err-found.result c.from_residual-in_err-found.ensures.1 in
    rw (p.1, p.2) (comes_so (g.S.Source.left c.args.source.now) [] _ _ (λ text h. h c.args.format) c.in_err-found.ensures.finds)

pub returns-in-Some-clause-says : goal.returns-in-Some-clause-says
returns-in-Some-clause-says g c =
    text_judged_behind (g.S.Source.left c.program_text.new.source) (g.S.Source.left c.args.source.now) c.program_text.new.reader
    c.in-Some.program.items c.args.format c.judge_behind.result (rw c.in-Some.is at c.in_ok-found.ensures.finds) c.judge_behind.ensures.says

pub returns-clause-says : goal.returns-clause-says
returns-clause-says g c = comes_so (g.S.Source.left c.args.source.now) [] _ _ (λ text h. h c.args.format) (rw c.in-None.is at c.in_ok-found.ensures.finds)
