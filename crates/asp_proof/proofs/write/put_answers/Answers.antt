use Rattle.std.proofs.Common.{List, arith, ap}
use Rattle.asp_model.specs.Sets.{Atoms}
use Rattle.asp_proof.specs.Texts.{lines}
use Rattle.asp_proof.specs.Texts.{answer_text}
use Rattle.asp_proof.specs.Changes.{changes_from}
use Rattle.asp_buffer.proofs.OutLaws.{drop_turn, midway_more, midway_fails}
use Rattle.asp_proof.proofs.write.put_answers.Goals as goal

pub returns-in_err-put_answer : goal.returns-in_err-put_answer
returns-in_err-put_answer g c =
    midway_fails _ _ _ _ _ _ _ _ _ _ c.loop-answer.invariant.midway c.in_err-put_answer.ensures
    (ap (λ (Ss : List Atoms). lines answer_text (changes_from c.loop-answer.last.now Ss))
    (drop_turn c.args.answers.now c.loop-answer.answer-index c.as_slice-atoms.result.now (omega arith)
    (rw c.as_slice-atoms.ensures.value c.answer-item.is)))
    c.from_residual.ensures.1

pub loop-answer-preserved : goal.loop-answer-preserved
loop-answer-preserved g c = record {
  ascending = c.as_slice-atoms.ensures.ascending;
  midway = midway_more _ _ _ _ _ _ _ _ c.loop-answer.invariant.midway c.in_ok-put_answer.ensures
      (ap (λ (Ss : List Atoms). lines answer_text (changes_from c.loop-answer.last.now Ss))
      (drop_turn c.args.answers.now c.loop-answer.answer-index c.as_slice-atoms.result.now (omega arith)
      (rw c.as_slice-atoms.ensures.value c.answer-item.is)));
}
