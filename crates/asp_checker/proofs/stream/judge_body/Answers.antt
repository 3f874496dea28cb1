use Rattle.std.proofs.Common.{[], ◌++◌, sym, ap, subst, ◌∙◌}
use Rattle.std.proofs.lemmas.Result.{err_from_is_err_and}
use Rattle.asp_proof.specs.Walk.{front_of, proof_of}
use Rattle.asp_proof.proofs.StreamLaws.{comes_back}
use Rattle.asp_rows.specs.Listed.{Listed}
use Rattle.asp_checker.specs.Streams.{AreLinesOf}
use Rattle.asp_checker.proofs.StreamLaws.{no_memory}
use Rattle.asp_checker.proofs.stream.judge_body.Goals as goal

pub returns-in_err-assumptions-clause-says : goal.returns-in_err-assumptions-clause-says
returns-in_err-assumptions-clause-says g c =
    let p = err_from_is_err_and c.from_residual.result c.from_residual.ensures.1 in
    rw (p.1, p.2) (no_memory c.args.compiled.now (g.S.Source.left c.args.source.now) (front_of (proof_of c.args.sought [] []) ++ c.args.reader.now.behind))

pub returns-in_err-known-clause-says : goal.returns-in_err-known-clause-says
returns-in_err-known-clause-says g c =
    let p = err_from_is_err_and c.from_residual-in_err-known.result c.from_residual-in_err-known.ensures.1 in
    rw (p.1, p.2) (no_memory c.args.compiled.now (g.S.Source.left c.args.source.now) (front_of (proof_of c.args.sought [] []) ++ c.args.reader.now.behind))

pub judge_lines-judged-requires-clause-ready : goal.judge_lines-judged-requires-clause-ready
judge_lines-judged-requires-clause-ready g c = c.in_ok-known.ensures.ready c.args.sought

pub returns-clause-says : goal.returns-clause-says
returns-clause-says g c =
    let p = c.args.compiled.now in
    let t = c.judge_lines-judged.new.tally in
    let h = rw c.in-None.is at c.in_ok-why.ensures.says in
    comes_back (g.S.Source.left c.args.source.now) (g.S.Source.left c.judge_lines-judged.new.source) _ _ _ h.moved
    (c.judge_list.ensures.says h.entries
    (subst (λ (found : Listed). AreLinesOf p c.args.sought h.entries t.count t.whole found.sets c.judge_lines-judged.new.reader) (sym c.into_found-found.ensures) h.lines))

pub judge_list-requires-clause-atoms : goal.judge_list-requires-clause-atoms
judge_list-requires-clause-atoms g c =
    let h = rw c.in-None.is at c.in_ok-why.ensures.says in
    ap (λ (found : Listed). found.atoms) c.into_found-found.ensures ∙ h.atoms
