use Rattle.std.proofs.Common.{◌≡◌, ◌<◌, ◌∙◌, pos, get_or, map, length, ap, arith, w64, rules}
use Rattle.std.proofs.lemmas.Int.{ints, to_z-of_z}
use Rattle.std.specs.Prelude.{List, ℤ, ◌<ℤ◌, ◌≤ℤ◌}
use Rattle.std.specs.Int.{w128}
use Rattle.std.proofs.lemmas.List.{length-map}
use Rattle.asp_checker.specs.Blocks.{sum_over}
use Rattle.asp_checker.proofs.BoundLaws.{sum_at, compare_less, compare_greater, compare_next}
use Rattle.asp_checker.proofs.bounds.reaches.Goals as goal

pub returns-then-sum-limit : goal.returns-then-sum-limit
returns-then-sum-limit c =
    let f : List ℤ → ℤ = λ w. sum_over c.args.values.now w c.args.priced.now in
    let lt : c.loop-i.i < length (map f c.args.levels.now) = omega (arith, length-map c.args.levels.now f, c.loop-i-test.true) in
    let lt' : c.loop-i.i < length c.args.cost.now = omega (arith, c.loop-i-test.true, c.requires.levels) in
    let sum =
    sum_at f c.args.levels.now c.loop-i.i c.index-levels-i.result c.spent-sum.result c.loop-i-test.true
    c.index-levels-i.is (c.spent-sum.ensures ∙ ap f c.as_slice.ensures.value) in
    let limit : c.widened-limit.result ≡ get_or c.args.cost.now c.loop-i.i (pos 0) = c.widened-limit.ensures.value ∙ to_z-of_z w64 (get_or c.args.cost.now c.loop-i.i (pos 0)) (search rules) in
    let a = to_z-of_z w128 c.spent-sum.result (search rules) in
    let b = to_z-of_z w128 c.widened-limit.result (search rules) in
    let less : c.spent-sum.result <ℤ c.widened-limit.result = omega (arith, ints, c.if-sum-limit.true, a, b) in
    compare_less (map f c.args.levels.now) c.args.cost.now c.loop-i.i c.spent-sum.result c.widened-limit.result lt lt' sum limit less c.loop-i.invariant

pub returns-then-limit-sum : goal.returns-then-limit-sum
returns-then-limit-sum c =
    let f : List ℤ → ℤ = λ w. sum_over c.args.values.now w c.args.priced.now in
    let lt : c.loop-i.i < length (map f c.args.levels.now) = omega (arith, length-map c.args.levels.now f, c.loop-i-test.true) in
    let lt' : c.loop-i.i < length c.args.cost.now = omega (arith, c.loop-i-test.true, c.requires.levels) in
    let sum =
    sum_at f c.args.levels.now c.loop-i.i c.index-levels-i.result c.spent-sum.result c.loop-i-test.true
    c.index-levels-i.is (c.spent-sum.ensures ∙ ap f c.as_slice.ensures.value) in
    let limit : c.widened-limit.result ≡ get_or c.args.cost.now c.loop-i.i (pos 0) = c.widened-limit.ensures.value ∙ to_z-of_z w64 (get_or c.args.cost.now c.loop-i.i (pos 0)) (search rules) in
    let a = to_z-of_z w128 c.spent-sum.result (search rules) in
    let b = to_z-of_z w128 c.widened-limit.result (search rules) in
    let more : c.widened-limit.result <ℤ c.spent-sum.result = omega (arith, ints, c.if-limit-sum.true, a, b) in
    compare_greater (map f c.args.levels.now) c.args.cost.now c.loop-i.i c.spent-sum.result c.widened-limit.result lt lt' sum limit more c.loop-i.invariant

pub loop-i-preserved : goal.loop-i-preserved
loop-i-preserved c =
    let f : List ℤ → ℤ = λ w. sum_over c.args.values.now w c.args.priced.now in
    let lt : c.loop-i.i < length (map f c.args.levels.now) = omega (arith, length-map c.args.levels.now f, c.loop-i-test.true) in
    let lt' : c.loop-i.i < length c.args.cost.now = omega (arith, c.loop-i-test.true, c.requires.levels) in
    let sum =
    sum_at f c.args.levels.now c.loop-i.i c.index-levels-i.result c.spent-sum.result c.loop-i-test.true
    c.index-levels-i.is (c.spent-sum.ensures ∙ ap f c.as_slice.ensures.value) in
    let limit : c.widened-limit.result ≡ get_or c.args.cost.now c.loop-i.i (pos 0) = c.widened-limit.ensures.value ∙ to_z-of_z w64 (get_or c.args.cost.now c.loop-i.i (pos 0)) (search rules) in
    let a = to_z-of_z w128 c.spent-sum.result (search rules) in
    let b = to_z-of_z w128 c.widened-limit.result (search rules) in
    let least : c.widened-limit.result ≤ℤ c.spent-sum.result = omega (arith, ints, c.if-sum-limit.false, a, b) in
    let most : c.spent-sum.result ≤ℤ c.widened-limit.result = omega (arith, ints, c.if-limit-sum.false, a, b) in
    compare_next (map f c.args.levels.now) c.args.cost.now c.loop-i.i c.spent-sum.result c.widened-limit.result lt lt' sum limit least most c.loop-i.invariant
