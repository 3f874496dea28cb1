use Rattle.std.proofs.Common.{ap, codes, map}
use Rattle.std.specs.Fmt.{signed_decimal}
use Rattle.asp_buffer.proofs.OutLaws.{puts_fails, puts_same, puts_then}
use Rattle.asp_json.specs.Json.{array, costs_text}
use Rattle.asp_json.proofs.answers.put_costs.Goals as goal

pub returns-in_err-put : goal.returns-in_err-put
returns-in_err-put g c = puts_fails _ _ _ _ _ (codes ",\"Costs\":") (array (map signed_decimal c.args.cost.now)) c.in_err-put.ensures c.from_residual.ensures.1

pub returns : goal.returns
returns g c = puts_same _ _ _ _ _
    (puts_then _ _ _ _ _ (codes ",\"Costs\":") (array (map signed_decimal c.as_slice.result.now)) c.in_ok-put.ensures c.put_sums.ensures)
    (ap costs_text c.as_slice.ensures)
