use Rattle.std.proofs.Common.{[], ◌++◌, refl, ap, ◌∙◌, Option, Result, Err}
use Rattle.std.proofs.lemmas.Result.{err_from_is_err_and}
use Rattle.asp_proof.specs.Walk.{front_of, proof_of}
use Rattle.asp_checker.specs.declared.error.CheckError.{CheckError}
use Rattle.asp_checker.specs.declared.judge.Why.{Why}
use Rattle.asp_proof.specs.Reading.{held}
use Rattle.asp_checker.proofs.JudgeLaws.{answers_push}
use Rattle.asp_checker.proofs.StreamLaws.{no_answers_yet, listed_first, listed_next, listed_wrong, listed_broken, listed_failed, all_listed, no_memory, no_fault, err_of}
use Rattle.asp_checker.proofs.PromiseLaws.{sorted_answers}
use Rattle.asp_checker.proofs.stream.judge_answers.Goals as goal

pub answers-init : goal.answers-init
answers-init g c = record {
  atoms = refl;
  right = rw c.requires.none (no_answers_yet c.args.compiled.now c.args.sought);
  listed = λ entries whole found h. rw c.requires.none (listed_first c.args.compiled.now c.args.sought entries c.args.count whole found (g.S.Source.left c.args.source.now) c.args.reader.now h);
  quiet = refl;
}

pub returns-in_err-order-clause-says : goal.returns-in_err-order-clause-says
returns-in_err-order-clause-says g c =
    let p = err_from_is_err_and c.from_residual.result c.from_residual.ensures.1 in
    λ entries whole found h. rw (p.1, p.2) (no_memory c.args.compiled.now (g.S.Source.left c.args.source.now) (front_of (proof_of c.args.sought entries []) ++ held c.args.reader.now))

pub returns-in_err-listed-clause-says : goal.returns-in_err-listed-clause-says
returns-in_err-listed-clause-says g c =
    let p = err_from_is_err_and c.from_residual-in_err-listed.result c.from_residual-in_err-listed.ensures.1 in
    λ entries whole found h. rw (p.1, p.2) (no_memory c.args.compiled.now (g.S.Source.left c.args.source.now) (front_of (proof_of c.args.sought entries []) ++ held c.args.reader.now))

pub returns-in-Wrong-clause-says : goal.returns-in-Wrong-clause-says
returns-in-Wrong-clause-says g c =
    let h = rw (c.in-Wrong.is, c.line-bytes.ensures) at c.in_ok-listed.ensures.read in
    λ entries whole found of.
    let r = of.right in
    listed_wrong c.args.compiled.now c.args.sought entries c.args.count c.answers.answers.sets c.read_answer.new.answers.sets h.0 c.in-Wrong.why
    (g.S.Source.left c.args.source.now) (g.S.Source.left c.answers.source) _ c.answers.reader r.confirmed r.counted
    (c.answers.invariant.listed entries whole found of) h.1 h.2 h.3

pub returns-in-Other-clause-says : goal.returns-in-Other-clause-says
returns-in-Other-clause-says g c =
    let h = rw (c.in-Other.is, c.line-bytes.ensures) at c.in_ok-listed.ensures.read in
    λ entries whole found of.
    all_listed c.args.compiled.now c.args.sought entries c.answers.answers.sets c.read_answer.new.answers.sets (g.S.Source.left c.args.source.now)
    (g.S.Source.left c.answers.source) _ c.answers.reader (c.answers.invariant.listed entries whole found of) h.0 h.1

pub returns-in_err-next-clause-says : goal.returns-in_err-next-clause-says
returns-in_err-next-clause-says g c =
    let p = err_from_is_err_and c.from_residual-in_err-next.result c.from_residual-in_err-next.ensures.1 in
    let h = rw (c.in-Right.is, c.line-bytes.ensures) at c.in_ok-listed.ensures.read in
    λ entries whole found of. rw (p.1, p.2)
    (listed_failed c.args.compiled.now c.args.sought entries c.answers.answers.sets h.0 (g.S.Source.left c.args.source.now)
    (g.S.Source.left c.answers.source) (g.S.Source.left c.next_line.new.source) _ c.answers.reader c.next_line.new.reader c.in_err-next.field-0.0
    (c.answers.invariant.listed entries whole found of) h.1 c.in_err-next.ensures.next)

pub returns-then-not-next-clause-says : goal.returns-then-not-next-clause-says
returns-then-not-next-clause-says g c =
    let h = rw (c.in-Right.is, c.line-bytes.ensures) at c.in_ok-listed.ensures.read in
    λ entries whole found of.
    let r = of.right in
    rw (c.refused.ensures, c.len.ensures.count)
    (listed_broken c.args.compiled.now c.args.sought entries c.args.count c.answers.answers.sets c.read_answer.new.answers.sets h.0
    (g.S.Source.left c.args.source.now) (g.S.Source.left c.answers.source) (g.S.Source.left c.next_line.new.source) _ c.answers.reader
    c.next_line.new.reader r.confirmed r.counted (c.answers.invariant.listed entries whole found of) h.1 h.2 h.3
    (rw c.if-not-next.true at c.in_ok-next.ensures.next))

pub answers-preserved : goal.answers-preserved
answers-preserved g c =
    let n = rw c.if-not-next.false at c.in_ok-next.ensures.next in
    let h = rw (c.in-Right.is, c.line-bytes.ensures) at c.in_ok-listed.ensures.read in
    record {
      atoms = c.read_answer.ensures.atoms ∙ c.answers.invariant.atoms;
      right = rw h.3 (answers_push c.args.compiled.now c.args.sought c.answers.answers.sets h.0 c.answers.invariant.right h.2);
      listed = λ entries whole found of.
          listed_next c.args.compiled.now c.args.sought entries c.answers.answers.sets c.read_answer.new.answers.sets h.0
          (g.S.Source.left c.args.source.now) (g.S.Source.left c.answers.source) (g.S.Source.left c.next_line.new.source) _ c.answers.reader
          c.next_line.new.reader (c.answers.invariant.listed entries whole found of) h.1 h.2 h.3 n;
      quiet = c.in_ok-next.ensures.quiet (no_fault c.in_ok-next.next _) ∙ c.answers.invariant.quiet;
    }

pub returns-clause-says : goal.returns-clause-says
returns-clause-says g c = λ entries whole found of. no_memory c.args.compiled.now (g.S.Source.left c.args.source.now) (front_of (proof_of c.args.sought entries []) ++ held c.args.reader.now)

pub returns-in-Wrong-clause-order : goal.returns-in-Wrong-clause-order
returns-in-Wrong-clause-order g c =
    let h = rw (c.in-Wrong.is, c.line-bytes.ensures) at c.in_ok-listed.ensures.read in
    rw h.3 (sorted_answers c.args.compiled.now c.args.sought c.answers.answers.sets c.answers.invariant.right)

pub returns-in-Other-clause-order : goal.returns-in-Other-clause-order
returns-in-Other-clause-order g c =
    let h = rw (c.in-Other.is, c.line-bytes.ensures) at c.in_ok-listed.ensures.read in
    rw h.1 (sorted_answers c.args.compiled.now c.args.sought c.answers.answers.sets c.answers.invariant.right)

pub returns-in_err-next-clause-quiet : goal.returns-in_err-next-clause-quiet
returns-in_err-next-clause-quiet g c =
    let e = err_from_is_err_and c.from_residual-in_err-next.result c.from_residual-in_err-next.ensures.1 in
    rw (e.1, e.2) (λ never. c.in_err-next.ensures.quiet (λ is. never
    (ap (λ (x : CheckError). let r : Result (Option Why) CheckError = Err x in r) (err_of c.in_err-next.field-0.0 _ is)))
    ∙ c.answers.invariant.quiet)
