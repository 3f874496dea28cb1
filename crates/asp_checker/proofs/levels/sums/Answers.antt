use Rattle.std.proofs.Common.{◌≡◌, ◌∙◌, ◌<◌, ◌+◌, ◌^◌, ℤ, List, length, get_or, take, drop, pos, SFits, w32, arith, rules, ap, sym, subst}
use Rattle.std.specs.Int.RustNames.{unsigned_abs}
use Rattle.std.proofs.lemmas.Int.{to_z-of_z}
use Rattle.std.proofs.lemmas.List.{get_or_default, take_at}
use Rattle.asp_vars.specs.Numbering.{literal_of, var_count}
use Rattle.asp_bound.specs.Weights.{AreWeights}
use Rattle.asp_bound.proofs.WeightLaws.{code_within, weights-room, AreWeights-more, size_of-more, abs-small}
use Rattle.asp_checker.proofs.levels.sums.Goals as goal

pub add-requires-clause-room : goal.add-requires-clause-room
add-requires-clause-room c =
    let within : c.code.result < length c.loop-literal.weights.items =
    omega (
      arith,
      code_within c.lit_of-lit.result (var_count c.args.compiled.now) c.lit_of-lit.ensures.within,
      c.loop-literal.invariant.0.count,
      c.code.ensures.code,
    ) in
    let room =
    weights-room c.args.compiled.now c.args.items.now c.loop-literal.weights.items c.loop-literal.literal-index c.code.result
    c.loop-literal.invariant.0 c.loop-literal.invariant.1 (omega arith) c.requires.few within in
    subst (λ (ws : List ℤ). unsigned_abs (get_or ws c.code.result (pos 0)) < 2 ^ 60) (sym c.as_mut_slice.ensures.value) room

pub loop-literal-preserved : goal.loop-literal-preserved
loop-literal-preserved c =
    let i = c.loop-literal.literal-index in
    let items = c.args.items.now in
    let x = get_or items i (pos 0, pos 0) in
    let lt : i < length items = omega arith in
    let is : get_or items i x ≡ x = get_or_default items i x (pos 0, pos 0) lt in
    let fits : SFits w32 (get_or items i (pos 0, pos 0)).1 = search rules in
    let literal = to_z-of_z w32 (get_or items i (pos 0, pos 0)).0 (search rules) in
    let weight = to_z-of_z w32 (get_or items i (pos 0, pos 0)).1 fits in
    let are = AreWeights-more c.args.compiled.now items c.loop-literal.weights.items c.as_mut_slice.result.now c.add.new.weights i c.code.result x _
    c.lit_of-lit.result lt is c.loop-literal.invariant.0
    (c.lit_of-lit.ensures.lit ∙ ap (literal_of c.args.compiled.now) literal) c.lit_of-lit.ensures.within c.as_mut_slice.ensures.value c.code.ensures.code c.add.ensures weight in
    let long : length c.add.new.weights ≡ c.loop-literal.weights.len = c.add.auto.weights ∙ c.as_mut_slice.ensures.len in (
      subst (AreWeights c.args.compiled.now (take (i + 1) items)) (sym (take_at c.add.new.weights (drop (length c.add.new.weights) c.loop-literal.weights.items) c.loop-literal.weights.len long)) are,
      size_of-more items i x lt is (abs-small x.1 fits) c.loop-literal.invariant.1,
    )
