use Rattle.std.proofs.Common.{◌∷◌, codes, flat_map}
use Rattle.std.specs.Fmt.{signed_decimal}
use Rattle.asp_buffer.proofs.OutLaws.{puts_then, puts_fails}
use Rattle.asp_top.proofs.progress.put_cost.Goals as goal

pub returns-in_err-put : goal.returns-in_err-put
returns-in_err-put g c = puts_fails _ _ _ _ _ (codes ", best") (flat_map (λ q. 32 ∷ signed_decimal q) c.args.cost.now) c.in_err-put.ensures c.from_residual.ensures.1

pub returns : goal.returns
returns g c = puts_then _ _ _ _ _ (codes ", best") (flat_map (λ q. 32 ∷ signed_decimal q) c.args.cost.now) c.in_ok-put.ensures (rw c.as_slice.ensures at c.put_sums.ensures)
