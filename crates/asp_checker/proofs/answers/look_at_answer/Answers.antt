use Rattle.std.proofs.Common.{◌+◌, [], get_or, refl, ap, ◌∙◌, arith}
use Rattle.asp_model.specs.Sets.{Atoms, has}
use Rattle.asp_checker.proofs.AnswerLaws.{answer_more, answer_missed, answer_whole}
use Rattle.asp_checker.proofs.answers.look_at_answer.Goals as goal

pub loop-at-preserved : goal.loop-at-preserved
loop-at-preserved c =
    let i = c.loop-at.at in
    let S = get_or c.args.listed.now c.args.place [] in
    let truth = c.has-truth.ensures ∙ ap (λ (L : Atoms). has S (get_or L i 0)) (c.as_slice-atoms.ensures.value ∙ c.atoms.ensures) in
    answer_more c.args.compiled.now S c.args.values.now i (i + 1) c.has-truth.result c.new.result c.loop-at.look
    c.with-look.result (omega (arith, c.loop-at-test.true, c.atom_count-at-end.ensures.count)) c.new.ensures refl truth c.with-look.ensures c.loop-at.invariant

pub returns-in-Fixpoint : goal.returns-in-Fixpoint
returns-in-Fixpoint c =
    let i = c.loop-at.at in
    let S = get_or c.args.listed.now c.args.place [] in
    let truth = c.has-truth.ensures ∙ ap (λ (L : Atoms). has S (get_or L i 0)) (c.as_slice-atoms.ensures.value ∙ c.atoms.ensures) in
    answer_missed c.args.compiled.now S c.args.values.now (i + 1) c.with-look.result c.in-Fixpoint.is
    (answer_more c.args.compiled.now S c.args.values.now i (i + 1) c.has-truth.result c.new.result c.loop-at.look
    c.with-look.result (omega (arith, c.loop-at-test.true, c.atom_count-at-end.ensures.count)) c.new.ensures refl truth c.with-look.ensures c.loop-at.invariant)

pub returns : goal.returns
returns c =
    answer_whole c.args.compiled.now (get_or c.args.listed.now c.args.place []) c.args.values.now c.loop-at.at c.loop-at.look
    (omega (arith, c.loop-at-test.false, c.atom_count-at-end.ensures.count)) c.loop-at.invariant
