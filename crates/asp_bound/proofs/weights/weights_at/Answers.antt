use Rattle.std.proofs.Common.{◌∙◌, List, ℤ, w32, ap, subst}
use Rattle.std.proofs.lemmas.Int.{to_z-of_z}
use Rattle.asp_model.specs.declared.program.Minimize.{Minimize}
use Rattle.asp_model.specs.declared.program.Program.{Program}
use Rattle.asp_bound.specs.Optimism.{items_at}
use Rattle.asp_bound.specs.Weights.{AreWeights}
use Rattle.asp_bound.proofs.WeightLaws.{items-all, items-few, size-small}
use Rattle.asp_bound.proofs.weights.weights_at.Goals as goal

pub add_all-requires-clause-stand : goal.add_all-requires-clause-stand
add_all-requires-clause-stand c =
    let plain = to_z-of_z w32 c.args.priority c.ranges.priority in
    let listed = c.as_slice-2.ensures.value ∙ (c.in_ok-items.ensures
    ∙ (ap (items_at c.as_slice.result.now) plain ∙ ap (λ (ms : List Minimize). items_at ms c.args.priority)
    (c.as_slice.ensures.value ∙ ap (λ (p : Program). p.minimize) c.program.ensures.program))) in
    items-all c.args.compiled.now c.args.priority c.as_slice-2.result.now listed

pub add_all-requires-clause-few : goal.add_all-requires-clause-few
add_all-requires-clause-few c =
    let plain = to_z-of_z w32 c.args.priority c.ranges.priority in
    let listed = c.as_slice-2.ensures.value ∙ (c.in_ok-items.ensures
    ∙ (ap (items_at c.as_slice.result.now) plain ∙ ap (λ (ms : List Minimize). items_at ms c.args.priority)
    (c.as_slice.ensures.value ∙ ap (λ (p : Program). p.minimize) c.program.ensures.program))) in
    items-few c.args.compiled.now c.args.priority c.as_slice-2.result.now listed c.program.ensures.sound

pub returns-clause-items : goal.returns-clause-items
returns-clause-items c =
    let plain = to_z-of_z w32 c.args.priority c.ranges.priority in
    c.in_ok-items.ensures ∙ (ap (items_at c.as_slice.result.now) plain
    ∙ ap (λ (ms : List Minimize). items_at ms c.args.priority)
    (c.as_slice.ensures.value ∙ ap (λ (p : Program). p.minimize) c.program.ensures.program))

pub returns-clause-weights : goal.returns-clause-weights
returns-clause-weights c =
    let plain = to_z-of_z w32 c.args.priority c.ranges.priority in
    let listed = c.as_slice-2.ensures.value ∙ (c.in_ok-items.ensures
    ∙ (ap (items_at c.as_slice.result.now) plain ∙ ap (λ (ms : List Minimize). items_at ms c.args.priority)
    (c.as_slice.ensures.value ∙ ap (λ (p : Program). p.minimize) c.program.ensures.program))) in
    subst (λ (xs : List (ℤ × ℤ)). AreWeights c.args.compiled.now xs c.add_all.new.weights) listed c.add_all.ensures.sums

pub returns-clause-small : goal.returns-clause-small
returns-clause-small c =
    let plain = to_z-of_z w32 c.args.priority c.ranges.priority in
    let listed = c.as_slice-2.ensures.value ∙ (c.in_ok-items.ensures
    ∙ (ap (items_at c.as_slice.result.now) plain ∙ ap (λ (ms : List Minimize). items_at ms c.args.priority)
    (c.as_slice.ensures.value ∙ ap (λ (p : Program). p.minimize) c.program.ensures.program))) in
    size-small c.args.compiled.now c.args.priority c.as_slice-2.result.now listed c.program.ensures.sound c.add_all.ensures.small
