use Rattle.std.proofs.Common.{codes, flat_map, rules, w32, ◌++◌}
use Rattle.std.proofs.lemmas.Int.{to_z-of_z}
use Rattle.asp_buffer.proofs.OutLaws.{puts_fails, puts_then}
use Rattle.asp_print.specs.Queries.{denial}
use Rattle.asp_json.specs.Quoting.{escaped}
use Rattle.asp_json.proofs.cores.put_named.Goals as goal

pub returns-in_err-put : goal.returns-in_err-put
returns-in_err-put g c =
    puts_fails _ _ _ _ _ (codes "\"") (flat_map escaped (denial c.args.literal ++ c.args.name.now) ++ codes "\"") c.in_err-put.ensures c.from_residual.ensures.1

pub returns-in_err-put_escaped_name : goal.returns-in_err-put_escaped_name
returns-in_err-put_escaped_name g c =
    let plain = to_z-of_z w32 c.args.literal (search rules) in
    puts_fails _ _ _ _ _ (codes "\"" ++ flat_map escaped (denial c.args.literal ++ c.args.name.now)) (codes "\"")
    (puts_then _ _ _ _ _ (codes "\"") (flat_map escaped (denial c.args.literal ++ c.args.name.now)) c.in_ok-put.ensures
    (rw plain at c.in_err-put_escaped_name.ensures)) c.from_residual-in_err-put_escaped_name.ensures.1

pub returns : goal.returns
returns g c =
    let plain = to_z-of_z w32 c.args.literal (search rules) in
    puts_then _ _ _ _ _ (codes "\"" ++ flat_map escaped (denial c.args.literal ++ c.args.name.now)) (codes "\"")
    (puts_then _ _ _ _ _ (codes "\"") (flat_map escaped (denial c.args.literal ++ c.args.name.now)) c.in_ok-put.ensures (rw plain at c.in_ok-put_escaped_name.ensures)) c.put-2.ensures
