use Rattle.std.proofs.Common.{◌++◌, ◌∙◌, sym, append_assoc}
use Rattle.asp_proof.specs.Texts.{line, lines}
use Rattle.asp_proof.specs.Texts.{answer_text, line_text, last_word, head_text, list_text}
use Rattle.asp_proof.specs.Changes.{changes_of}
use Rattle.asp_buffer.proofs.OutLaws.{puts_then, puts_fails, puts_same}
use Rattle.asp_proof.proofs.write.put_proof.Goals as goal

pub returns-in_err-put_head : goal.returns-in_err-put_head
returns-in_err-put_head g c =
    let p = c.args.proof.now in
    let first = head_text p.sought in
    puts_same _ _ _ _ _ (puts_fails _ _ _ _ _ first (lines line_text p.lines ++ list_text p.answers p.part) c.in_err-put_head.ensures c.from_residual.ensures.1)
    (sym (append_assoc first (lines line_text p.lines) (list_text p.answers p.part))
    ∙ sym (append_assoc (first ++ lines line_text p.lines) (lines answer_text (changes_of p.answers)) (line (last_word p.part))))

pub returns-in_err-put_lines : goal.returns-in_err-put_lines
returns-in_err-put_lines g c =
    let p = c.args.proof.now in
    let first = head_text p.sought ++ lines line_text p.lines in
    puts_same _ _ _ _ _ (puts_fails _ _ _ _ _ first (list_text p.answers p.part)
    (puts_then _ _ _ _ _ _ _ c.in_ok-put_head.ensures (rw c.as_slice.ensures.value at c.in_err-put_lines.ensures)) c.from_residual-in_err-put_lines.ensures.1)
    (sym (append_assoc first (lines answer_text (changes_of p.answers)) (line (last_word p.part))))

pub returns : goal.returns
returns g c =
    let p = c.args.proof.now in
    let first = head_text p.sought ++ lines line_text p.lines in
    puts_same _ _ _ _ _ (puts_then _ _ _ _ _ first (list_text p.answers p.part)
    (puts_then _ _ _ _ _ _ _ c.in_ok-put_head.ensures (rw c.as_slice.ensures.value at c.in_ok-put_lines.ensures))
    (rw c.as_slice-2.ensures.value at c.put_list.ensures))
    (sym (append_assoc first (lines answer_text (changes_of p.answers)) (line (last_word p.part))))
