use Rattle.std.proofs.Common.{[], ◌∷◌, ◌++◌, append_assoc, sym}
use Rattle.asp_buffer.proofs.OutLaws.{puts_then, puts_fails, puts_same}
use Rattle.asp_print.specs.Queries.{core_word, literals_text}
use Rattle.asp_print.proofs.query.put_core_of.Goals as goal

pub returns-in_err-put : goal.returns-in_err-put
returns-in_err-put g c =
    let word = core_word c.args.minimal in
    let literals = literals_text c.args.names c.args.outputs.now c.args.core.now in
    puts_same _ _ _ _ _ (puts_fails _ _ _ _ _ word (literals ++ 10 ∷ []) (rw c.core_word.ensures at c.in_err-put.ensures) c.from_residual.ensures.1) (sym (append_assoc word literals (10 ∷ [])))

pub returns-in_err-put_literals : goal.returns-in_err-put_literals
returns-in_err-put_literals g c =
    puts_fails _ _ _ _ _ (core_word c.args.minimal ++ literals_text c.args.names c.args.outputs.now c.args.core.now) (10 ∷ [])
    (puts_then _ _ _ _ _ _ _ (rw c.core_word.ensures at c.in_ok-put.ensures) c.in_err-put_literals.ensures)
    c.from_residual-in_err-put_literals.ensures.1

pub returns : goal.returns
returns g c = puts_then _ _ _ _ _ _ _
    (puts_then _ _ _ _ _ (core_word c.args.minimal) (literals_text c.args.names c.args.outputs.now c.args.core.now)
    (rw c.core_word.ensures at c.in_ok-put.ensures) c.in_ok-put_literals.ensures) c.put-2.ensures
