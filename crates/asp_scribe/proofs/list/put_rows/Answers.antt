use Rattle.asp_buffer.proofs.OutLaws.{puts_then, puts_fails}
use Rattle.asp_proof.specs.Changes.{changes_of}
use Rattle.asp_proof.specs.Texts.{answer_text, last_word, line, lines}
use Rattle.asp_scribe.proofs.list.put_rows.Goals as goal

pub returns-in_err-put_answers : goal.returns-in_err-put_answers
returns-in_err-put_answers g c =
    puts_fails _ _ _ _ _ (lines answer_text (changes_of c.args.rows.now.sets)) (line (last_word c.args.part))
    (rw c.as_slice-2.ensures.sets at c.in_err-put_answers.ensures) c.from_residual.ensures.1

pub returns : goal.returns
returns g c =
    puts_then _ _ _ _ _ (lines answer_text (changes_of c.args.rows.now.sets)) (line (last_word c.args.part))
    (rw c.as_slice-2.ensures.sets at c.in_ok-put_answers.ensures) c.put_list.ensures
