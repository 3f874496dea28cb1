use Rattle.std.proofs.Common.{rules, w32}
use Rattle.std.proofs.lemmas.Int.{to_z-of_z}
use Rattle.asp_buffer.proofs.OutLaws.{puts_fails, puts_then}
use Rattle.asp_print.specs.Shown.{separator}
use Rattle.asp_json.specs.Entries.{element}
use Rattle.asp_json.proofs.cores.put_element.Goals as goal

pub returns-in_err-put_comma : goal.returns-in_err-put_comma
returns-in_err-put_comma g c =
    puts_fails _ _ _ _ _ (separator 44 c.args.any) (element c.args.names c.args.outputs.now c.args.literal.now) c.in_err-put_comma.ensures c.from_residual.ensures.1

pub returns : goal.returns
returns g c =
    let plain = to_z-of_z w32 c.args.literal.now (search rules) in
    puts_then _ _ _ _ _ (separator 44 c.args.any) (element c.args.names c.args.outputs.now c.args.literal.now) c.in_ok-put_comma.ensures (rw (c.name_of.ensures, plain) at c.put_element_by.ensures)
