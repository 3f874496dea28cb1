use Rattle.std.proofs.Common.{◌≡◌, ◌+◌, ◌*◌, refl, arith, rules, get_or, pos, sym, ap, ◌∙◌, to_z, of_z, w64, Option, Bool}
use Rattle.std.specs.Prelude.{ℤ, ◌+ℤ◌}
use Rattle.std.specs.Int.{w128}
use Rattle.std.proofs.lemmas.Int.{ints, to_z-of_z}
use Rattle.asp_vars.specs.Literals.{value_of}
use Rattle.asp_bound.specs.Optimism.{least}
use Rattle.asp_checker.proofs.BoundLaws.{over-next}
use Rattle.asp_checker.proofs.bounds.spent.Goals as goal

pub loop-var-preserved : goal.loop-var-preserved
loop-var-preserved c =
    let i = c.loop-var.var-index in
    let v = get_or c.args.vars.now i 0 in
    let x = c.args.values.now in
    let w = c.args.weights.now in
    let back = to_z-of_z w128 c.add-sum.result (search rules) in
    let first = to_z-of_z w64 (get_or w (2 * v) (pos 0)) (search rules) in
    let second = to_z-of_z w64 (get_or w (2 * v + 1) (pos 0)) (search rules) in
    let made : c.add-sum.result ≡ c.loop-var.sum +ℤ c.least-more.result =
    c.add-sum.ensures ∙ ap (λ (a : ℤ). a +ℤ to_z w128 (of_z w128 c.least-more.result)) c.loop-var.sum-is ∙ ap (λ (b : ℤ). c.loop-var.sum +ℤ b) (to_z-of_z w128 c.least-more.result (search rules)) in
    let more : c.least-more.result ≡ least (value_of x v) (get_or w (2 * v) (pos 0)) (get_or w (2 * v + 1) (pos 0)) =
    c.least-more.ensures.value
    ∙ ap (λ (o : Option Bool). least o (to_z w64 (of_z w64 (get_or w (2 * v) (pos 0)))) (to_z w64 (of_z w64 (get_or w (2 * v + 1) (pos 0))))) c.value.ensures
    ∙ ap (λ (t : ℤ). least (value_of x v) t (to_z w64 (of_z w64 (get_or w (2 * v + 1) (pos 0))))) first
    ∙ ap (λ (t : ℤ). least (value_of x v) (get_or w (2 * v) (pos 0)) t) second in
    record {
      sum = back ∙ over-next x w c.args.vars.now i v c.loop-var.sum c.least-more.result c.add-sum.result c.loop-var-test.true refl (sym c.loop-var.sum-is ∙ c.loop-var.invariant.sum) more made;
      low = omega (arith, ints, back, made, c.loop-var.sum-is, c.loop-var.invariant.low, c.least-more.ensures.low);
      high = omega (arith, ints, back, made, c.loop-var.sum-is, c.loop-var.invariant.high, c.least-more.ensures.high);
    }
