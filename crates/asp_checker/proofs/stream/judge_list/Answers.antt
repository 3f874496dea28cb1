use Rattle.std.proofs.Common.{[], ◌++◌, ap, sym, ◌∙◌}
use Rattle.std.proofs.lemmas.Result.{err_from_is_err_and}
use Rattle.asp_proof.proofs.StreamLaws.{comes_back}
use Rattle.asp_proof.specs.Walk.{front_of, proof_of}
use Rattle.asp_proof.specs.Reading.{held}
use Rattle.asp_rows.specs.Listed.{Listed}
use Rattle.asp_checker.proofs.StreamLaws.{no_memory}
use Rattle.asp_checker.proofs.stream.judge_list.Goals as goal

pub returns-in_err-answers-clause-says : goal.returns-in_err-answers-clause-says
returns-in_err-answers-clause-says g c =
    let p = err_from_is_err_and c.from_residual.result c.from_residual.ensures.1 in
    λ entries of. rw (p.1, p.2) (no_memory c.args.compiled.now (g.S.Source.left c.args.source.now) (front_of (proof_of c.args.sought entries []) ++ held c.args.reader.now))

pub judge_answers-requires-clause-atoms : goal.judge_answers-requires-clause-atoms
judge_answers-requires-clause-atoms g c = ap (λ (l : Listed). l.atoms) c.in_ok-answers.ensures

pub judge_answers-requires-clause-none : goal.judge_answers-requires-clause-none
judge_answers-requires-clause-none g c = ap (λ (l : Listed). l.sets) c.in_ok-answers.ensures

pub judge_end-requires-clause-atoms : goal.judge_end-requires-clause-atoms
judge_end-requires-clause-atoms g c =
    c.requires.atoms ∙ sym (c.in_ok-fault.ensures.atoms ∙ ap (λ (l : Listed). l.atoms) c.in_ok-answers.ensures)

pub returns-in_err-fault-clause-says : goal.returns-in_err-fault-clause-says
returns-in_err-fault-clause-says g c =
    let p = err_from_is_err_and c.from_residual-in_err-fault.result c.from_residual-in_err-fault.ensures.1 in
    λ entries of. rw (p.1, p.2) (c.in_err-fault.ensures.says entries c.args.tally.whole c.args.found.now.sets of)

pub returns-in-Some-clause-says : goal.returns-in-Some-clause-says
returns-in-Some-clause-says g c = λ entries of.
    rw c.len.ensures.count ((rw c.in-Some.is at c.in_ok-fault.ensures.says) entries c.args.tally.whole c.args.found.now.sets of)

pub returns-clause-says : goal.returns-clause-says
returns-clause-says g c = λ entries of.
    let h = (rw c.in-None.is at c.in_ok-fault.ensures.says) entries c.args.tally.whole c.args.found.now.sets of in
    comes_back (g.S.Source.left c.args.source.now) (g.S.Source.left c.judge_answers.new.source) _ _ _ h.moved
    (c.judge_end.ensures.says c.args.compiled.now entries c.requires.sound of.right h.at_end)

pub judge_end-requires-clause-order : goal.judge_end-requires-clause-order
judge_end-requires-clause-order g c = c.in_ok-fault.ensures.order
