use Rattle.std.proofs.Common.{[], ◌∷◌, ◌++◌, codes}
use Rattle.asp_proof.specs.Texts.{atoms_fields}
use Rattle.asp_proof.specs.Changes.{changed}
use Rattle.asp_buffer.proofs.OutLaws.{puts_then, puts_fails}
use Rattle.asp_proof.proofs.write.put_answer.Goals as goal

pub returns-in_err-put : goal.returns-in_err-put
returns-in_err-put g c = puts_fails _ _ _ _ _ (codes "a") (atoms_fields (changed c.args.last.now c.args.answer.now) ++ 10 ∷ []) c.in_err-put.ensures c.from_residual.ensures.1

pub returns-in_err-put_changed : goal.returns-in_err-put_changed
returns-in_err-put_changed g c =
    puts_fails _ _ _ _ _ (codes "a" ++ atoms_fields (changed c.args.last.now c.args.answer.now)) (10 ∷ [])
    (puts_then _ _ _ _ _ _ _ c.in_ok-put.ensures c.in_err-put_changed.ensures) c.from_residual-in_err-put_changed.ensures.1

pub returns : goal.returns
returns g c =
    puts_then _ _ _ _ _ (codes "a" ++ atoms_fields (changed c.args.last.now c.args.answer.now)) (10 ∷ []) (puts_then _ _ _ _ _ _ _ c.in_ok-put.ensures c.in_ok-put_changed.ensures) c.put-2.ensures
