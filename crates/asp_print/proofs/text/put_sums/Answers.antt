use Rattle.std.proofs.Common.{arith, flat_map, ap, ◌∷◌}
use Rattle.std.specs.Prelude.{ℤ, pos}
use Rattle.std.specs.Fmt.{signed_decimal}
use Rattle.asp_buffer.proofs.OutLaws.{drop_turn_or, midway_more, midway_fails}
use Rattle.asp_print.proofs.text.put_sums.Goals as goal

pub returns-in_err-put_sum : goal.returns-in_err-put_sum
returns-in_err-put_sum g c = midway_fails _ _ _ _ _ _ _ _ _ _ c.loop-sum.invariant c.in_err-put_sum.ensures
    (ap (flat_map (λ (q : ℤ). 32 ∷ signed_decimal q)) (drop_turn_or c.args.sums.now c.loop-sum.sum-index (pos 0) (omega arith))) c.from_residual.ensures.1

pub loop-sum-preserved : goal.loop-sum-preserved
loop-sum-preserved g c = midway_more _ _ _ _ _ _ _ _ c.loop-sum.invariant c.in_ok-put_sum.ensures
    (ap (flat_map (λ (q : ℤ). 32 ∷ signed_decimal q)) (drop_turn_or c.args.sums.now c.loop-sum.sum-index (pos 0) (omega arith)))
