use Rattle.std.proofs.Common.{◌≡◌, ℕ, ◌+◌, length, ap, ◌∙◌, arith}
use Rattle.asp_buffer.proofs.OutLaws.{puts_fails, puts_same, puts_then}
use Rattle.asp_outlet.specs.Outlets.{Heard, optima_closing}
use Rattle.asp_outlet.proofs.outlet.write_optima_end.Goals as goal

pub returns-in_err-write-clause-puts : goal.returns-in_err-write-clause-puts
returns-in_err-write-clause-puts g c =
    puts_fails _ _ _ _ _ _ (optima_closing c.args.end c.args.cost.now (length c.args.listing.now.sets + length c.args.rest.now.sets)) c.in_err-write.ensures.puts c.from_residual.ensures.1

pub returns-clause-puts : goal.returns-clause-puts
returns-clause-puts g c =
    let heard = c.len.ensures ∙ ap (λ (h : Heard). length h.sets) c.in_ok-write.ensures.same in
    let count : c.len.result + c.len-2.result ≡ length c.args.listing.now.sets + length c.args.rest.now.sets = omega (arith, heard, c.len-2.ensures) in
    puts_then _ _ _ _ _ _ (optima_closing c.args.end c.args.cost.now (length c.args.listing.now.sets + length c.args.rest.now.sets)) c.in_ok-write.ensures.puts
    (puts_same _ _ _ _ _ c.write_optima_closing.ensures.puts (ap (λ (n : ℕ). optima_closing c.args.end c.args.cost.now n) count))
