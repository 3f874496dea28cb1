use Rattle.std.proofs.Common.{rules}
use Rattle.std.specs.Fmt.{signed_decimal}
use Rattle.std.proofs.lemmas.Int.{to_z-of_z}
use mir.Syntax.{w64}
use mir.Val.{SFits}
use Rattle.asp_buffer.proofs.OutLaws.{puts_fails, puts_then}
use Rattle.asp_print.specs.Shown.{separator}
use Rattle.asp_json.proofs.lists.put_sum.Goals as goal

pub returns-in_err-put_comma : goal.returns-in_err-put_comma
returns-in_err-put_comma g c = puts_fails _ _ _ _ _ (separator 44 c.args.any) (signed_decimal c.args.sum.now) c.in_err-put_comma.ensures c.from_residual.ensures.1

pub returns : goal.returns
returns g c =
    let f : SFits w64 c.args.sum.now = search rules in
    puts_then _ _ _ _ _ (separator 44 c.args.any) (signed_decimal c.args.sum.now) c.in_ok-put_comma.ensures (rw (to_z-of_z w64 c.args.sum.now f) at c.put_number.ensures)
