use Rattle.std.proofs.Common.{codes, map, ◌++◌}
use Rattle.asp_buffer.proofs.OutLaws.{puts_fails, puts_then}
use Rattle.asp_json.specs.Entries.{element, minimal_word}
use Rattle.asp_json.specs.Json.{array}
use Rattle.asp_json.proofs.cores.put_core_of.Goals as goal

pub returns-in_err-put_literals : goal.returns-in_err-put_literals
returns-in_err-put_literals g c =
    puts_fails _ _ _ _ _ (codes ",\"Core\":" ++ array (map (element c.args.names c.args.outputs.now) c.args.core.now)) (codes ",\"Minimal\":\""
    ++ minimal_word c.args.minimal ++ codes "\"") c.in_err-put_literals.ensures c.from_residual.ensures.1

pub returns : goal.returns
returns g c =
    puts_then _ _ _ _ _ (codes ",\"Core\":" ++ array (map (element c.args.names c.args.outputs.now) c.args.core.now)) (codes ",\"Minimal\":\""
    ++ minimal_word c.args.minimal ++ codes "\"") c.in_ok-put_literals.ensures c.put_minimal.ensures
