use Rattle.std.proofs.Common.{◌∙◌, List, w32, ap}
use Rattle.std.proofs.lemmas.Int.{to_z-of_z}
use Rattle.std.proofs.lemmas.Result.{on_ok_weaker}
use Rattle.asp_model.specs.declared.program.Minimize.{Minimize}
use Rattle.asp_model.specs.declared.program.Program.{Program}
use Rattle.asp_bound.specs.Optimism.{items_at}
use Rattle.asp_bound.proofs.WeightLaws.{items-all, items-few, size-small}
use Rattle.asp_checker.proofs.levels.weights_at.Goals as goal

pub sums-requires-clause-stand : goal.sums-requires-clause-stand
sums-requires-clause-stand c =
    let plain = to_z-of_z w32 c.args.priority c.ranges.priority in
    let listed = c.as_slice-2.ensures.value ∙ (c.in_ok-items.ensures
    ∙ (ap (items_at c.as_slice.result.now) plain ∙ ap (λ (ms : List Minimize). items_at ms c.args.priority)
    (c.as_slice.ensures.value ∙ ap (λ (p : Program). p.minimize) c.program.ensures.program))) in
    items-all c.args.compiled.now c.args.priority c.as_slice-2.result.now listed

pub sums-requires-clause-few : goal.sums-requires-clause-few
sums-requires-clause-few c =
    let plain = to_z-of_z w32 c.args.priority c.ranges.priority in
    let listed = c.as_slice-2.ensures.value ∙ (c.in_ok-items.ensures
    ∙ (ap (items_at c.as_slice.result.now) plain ∙ ap (λ (ms : List Minimize). items_at ms c.args.priority)
    (c.as_slice.ensures.value ∙ ap (λ (p : Program). p.minimize) c.program.ensures.program))) in
    items-few c.args.compiled.now c.args.priority c.as_slice-2.result.now listed c.program.ensures.sound

pub returns-clause-small : goal.returns-clause-small
returns-clause-small c =
    let plain = to_z-of_z w32 c.args.priority c.ranges.priority in
    let listed = c.as_slice-2.ensures.value ∙ (c.in_ok-items.ensures
    ∙ (ap (items_at c.as_slice.result.now) plain ∙ ap (λ (ms : List Minimize). items_at ms c.args.priority)
    (c.as_slice.ensures.value ∙ ap (λ (p : Program). p.minimize) c.program.ensures.program))) in
    on_ok_weaker c.sums.result (size-small c.args.compiled.now c.args.priority c.as_slice-2.result.now listed c.program.ensures.sound) c.sums.ensures.small
