use Rattle.std.proofs.Common.{[], ◌∷◌, rules}
use Rattle.std.specs.Fmt.{signed_decimal}
use Rattle.std.proofs.lemmas.Int.{to_z-of_z}
use mir.Syntax.{w32}
use mir.Val.{SFits}
use Rattle.asp_buffer.proofs.OutLaws.{puts_then, puts_fails}
use Rattle.asp_proof.proofs.write.put_literal.Goals as goal

pub returns-in_err-put : goal.returns-in_err-put
returns-in_err-put g c = puts_fails _ _ _ _ _ (32 ∷ []) (signed_decimal c.args.literal.now) c.in_err-put.ensures c.from_residual.ensures.1

pub returns : goal.returns
returns g c =
    let f : SFits w32 c.args.literal.now = search rules in
    puts_then _ _ _ _ _ (32 ∷ []) (signed_decimal c.args.literal.now) c.in_ok-put.ensures (rw (to_z-of_z w32 c.args.literal.now f) at c.put_number.ensures)
