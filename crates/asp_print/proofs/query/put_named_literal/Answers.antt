use Rattle.std.proofs.Common.{w32, rules}
use Rattle.std.proofs.lemmas.Int.{to_z-of_z}
use Rattle.asp_buffer.proofs.OutLaws.{puts_then, puts_fails}
use Rattle.asp_print.specs.Queries.{denial}
use Rattle.asp_print.proofs.query.put_named_literal.Goals as goal

pub returns-in_err-put : goal.returns-in_err-put
returns-in_err-put g c =
    let plain = to_z-of_z w32 c.args.literal (search rules) in
    puts_fails _ _ _ _ _ (denial c.args.literal) c.args.name.now (rw (c.denial.ensures, plain) at c.in_err-put.ensures) c.from_residual.ensures.1

pub returns : goal.returns
returns g c =
    let plain = to_z-of_z w32 c.args.literal (search rules) in
    puts_then _ _ _ _ _ (denial c.args.literal) c.args.name.now (rw (c.denial.ensures, plain) at c.in_ok-put.ensures) c.put-2.ensures
