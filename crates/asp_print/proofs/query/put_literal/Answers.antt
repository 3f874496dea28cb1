use Rattle.std.proofs.Common.{[], ◌∷◌, refl, w32, rules}
use Rattle.std.proofs.lemmas.Int.{to_z-of_z}
use Rattle.asp_buffer.proofs.OutLaws.{puts_then, puts_fails, puts_same}
use Rattle.asp_print.specs.Queries.{literal_text}
use Rattle.asp_print.proofs.query.put_literal.Goals as goal

pub returns-in_err-put : goal.returns-in_err-put
returns-in_err-put g c = puts_fails _ _ _ _ _ (32 ∷ []) (literal_text c.args.names c.args.outputs.now c.args.literal.now) c.in_err-put.ensures c.from_residual.ensures.1

pub returns : goal.returns
returns g c =
    let plain = to_z-of_z w32 c.args.literal.now (search rules) in
    puts_same _ _ _ _ _ (puts_then _ _ _ _ _ (32 ∷ []) _ c.in_ok-put.ensures c.put_literal_by.ensures) (rw (c.name_of.ensures, plain) refl)
