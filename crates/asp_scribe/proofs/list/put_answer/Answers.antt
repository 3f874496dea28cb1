use Rattle.std.proofs.Common.{[], ◌∷◌, ◌++◌, codes}
use Rattle.std.specs.Option.{option_copied}
use Rattle.asp_buffer.proofs.OutLaws.{puts_then, puts_fails}
use Rattle.asp_proof.specs.Changes.{changed}
use Rattle.asp_proof.specs.Texts.{atoms_fields}
use Rattle.asp_scribe.specs.Lists.{set_of}
use Rattle.asp_scribe.proofs.list.put_answer.Goals as goal

pub returns-in_err-put : goal.returns-in_err-put
returns-in_err-put g c =
    puts_fails _ _ _ _ _ (codes "a") (atoms_fields (changed (set_of (option_copied c.args.last)) c.args.row.now.set) ++ 10 ∷ []) c.in_err-put.ensures c.from_residual.ensures.1

pub returns-in_err-put_changed : goal.returns-in_err-put_changed
returns-in_err-put_changed g c =
    puts_fails _ _ _ _ _ (codes "a" ++ atoms_fields (changed (set_of (option_copied c.args.last)) c.args.row.now.set)) (10 ∷ [])
    (puts_then _ _ _ _ _ _ _ c.in_ok-put.ensures c.in_err-put_changed.ensures) c.from_residual-in_err-put_changed.ensures.1

pub returns : goal.returns
returns g c =
    puts_then _ _ _ _ _ (codes "a" ++ atoms_fields (changed (set_of (option_copied c.args.last)) c.args.row.now.set)) (10 ∷ [])
    (puts_then _ _ _ _ _ _ _ c.in_ok-put.ensures c.in_ok-put_changed.ensures) c.put-2.ensures
