use Rattle.std.proofs.Common.{flat_map, rules, sym, w32}
use Rattle.std.proofs.lemmas.Grind.{flat_map-append}
use Rattle.std.proofs.lemmas.Int.{to_z-of_z}
use Rattle.asp_buffer.proofs.OutLaws.{puts_fails, puts_same, puts_then}
use Rattle.asp_print.specs.Queries.{denial}
use Rattle.asp_json.specs.Quoting.{escaped}
use Rattle.asp_json.proofs.cores.put_escaped_name.Goals as goal

pub returns-in_err-put_escaped : goal.returns-in_err-put_escaped
returns-in_err-put_escaped g c =
    let plain = to_z-of_z w32 c.args.literal (search rules) in
    puts_same _ _ _ _ _ (puts_fails _ _ _ _ _ (flat_map escaped (denial c.args.literal)) (flat_map escaped c.args.name.now)
    (rw (c.denial.ensures, plain) at c.in_err-put_escaped.ensures) c.from_residual.ensures.1) (sym (flat_map-append escaped (denial c.args.literal) c.args.name.now))

pub returns : goal.returns
returns g c =
    let plain = to_z-of_z w32 c.args.literal (search rules) in
    puts_same _ _ _ _ _ (puts_then _ _ _ _ _ (flat_map escaped (denial c.args.literal)) (flat_map escaped c.args.name.now)
    (rw (c.denial.ensures, plain) at c.in_ok-put_escaped.ensures) c.put_escaped-2.ensures) (sym (flat_map-append escaped (denial c.args.literal) c.args.name.now))
