use Rattle.std.proofs.Common.{◌≡◌, ◌∙◌, ◌<◌, ◌≤◌, List, length, map, w32, w64, refl, sym, ap, subst, arith, rules}
use Rattle.std.specs.List.{All}
use Rattle.std.proofs.lemmas.Int.{to_z-of_z}
use Rattle.std.proofs.lemmas.List.{take_at}
use Rattle.std.proofs.lemmas.List.Elements.{All-weaker}
use Rattle.asp_vars.specs.Numbering.{var_count}
use Rattle.asp_bound.specs.declared.place.Addition.{Addition}
use Rattle.asp_bound.specs.Optimism.{items_at}
use Rattle.asp_bound.specs.Levels.{additions_to, item_of, ArePlaced}
use Rattle.asp_bound.proofs.WeightLaws.{items-all, weights_as, small_as}
use Rattle.asp_bound.proofs.LevelLaws.{least_to-high, least_to-low, additions-few_as, additions-vars, gathered_as}
use Rattle.asp_bound.proofs.TakenLaws.{permuted-twice}
use Rattle.asp_bound.proofs.levels.add_level.Goals as goal

pub take_additions-requires-clause-stand : goal.take_additions-requires-clause-stand
take_additions-requires-clause-stand c =
    let plain = to_z-of_z w32 c.args.priority c.ranges.priority in
    items-all c.args.compiled.now c.args.priority c.as_slice.result.now (c.as_slice.ensures.value ∙ (c.in_ok-items.ensures.items ∙ ap (items_at c.args.compiled.now.minimize) plain))

pub take_additions-requires-clause-low : goal.take_additions-requires-clause-low
take_additions-requires-clause-low c =
    let plain = to_z-of_z w32 c.args.priority c.ranges.priority in
    let are = weights_as c.args.compiled.now c.args.priority _ c.weights_at.new.weights c.weights_at.new.weights plain refl c.in_ok-items.ensures.weights in
    let small = small_as c.args.compiled.now c.args.priority _ plain c.in_ok-items.ensures.small in
    least_to-low c.args.compiled.now c.args.priority c.weights_at.new.weights are small

pub take_additions-requires-clause-high : goal.take_additions-requires-clause-high
take_additions-requires-clause-high c =
    let plain = to_z-of_z w32 c.args.priority c.ranges.priority in
    let are = weights_as c.args.compiled.now c.args.priority _ c.weights_at.new.weights c.weights_at.new.weights plain refl c.in_ok-items.ensures.weights in
    let small = small_as c.args.compiled.now c.args.priority _ plain c.in_ok-items.ensures.small in
    least_to-high c.args.compiled.now c.args.priority c.weights_at.new.weights are small

pub add_places-requires-clause-few : goal.add_places-requires-clause-few
add_places-requires-clause-few c =
    let p = c.args.compiled.now in
    let ws = c.weights_at.new.weights in
    let len = c.in_ok-taken.taken.additions.len in
    let long : length c.sort_by_var.new.additions ≡ len = c.sort_by_var.auto.additions ∙ c.as_mut_slice.ensures.len in
    let middle : c.as_mut_slice-2.result.now ≡ c.sort_by_var.new.additions = c.as_mut_slice-2.ensures.value ∙ take_at c.sort_by_var.new.additions _ len long in
    let length_is : length c.sort.new.additions ≡ len = c.sort.auto.additions ∙ c.as_mut_slice-2.ensures.len in
    let is : c.as_slice-2.result.now ≡ c.sort.new.additions = c.as_slice-2.ensures.value ∙ take_at c.sort.new.additions _ len length_is in
    let permuted =
    permuted-twice (additions_to ws (var_count p)) c.in_ok-taken.taken.additions.items c.as_mut_slice.result.now c.sort_by_var.new.additions
    c.as_mut_slice-2.result.now c.sort.new.additions
    c.in_ok-taken.ensures.additions c.as_mut_slice.ensures.value c.sort_by_var.ensures middle c.sort.ensures.permutation in
    omega (arith, ap length is, additions-few_as ws c.sort.new.additions (var_count p) permuted, c.requires.few)

pub add_places-requires-clause-vars : goal.add_places-requires-clause-vars
add_places-requires-clause-vars c =
    let p = c.args.compiled.now in
    let ws = c.weights_at.new.weights in
    let len = c.in_ok-taken.taken.additions.len in
    let long : length c.sort_by_var.new.additions ≡ len = c.sort_by_var.auto.additions ∙ c.as_mut_slice.ensures.len in
    let middle : c.as_mut_slice-2.result.now ≡ c.sort_by_var.new.additions = c.as_mut_slice-2.ensures.value ∙ take_at c.sort_by_var.new.additions _ len long in
    let length_is : length c.sort.new.additions ≡ len = c.sort.auto.additions ∙ c.as_mut_slice-2.ensures.len in
    let is : c.as_slice-2.result.now ≡ c.sort.new.additions = c.as_slice-2.ensures.value ∙ take_at c.sort.new.additions _ len length_is in
    let permuted =
    permuted-twice (additions_to ws (var_count p)) c.in_ok-taken.taken.additions.items c.as_mut_slice.result.now c.sort_by_var.new.additions
    c.as_mut_slice-2.result.now c.sort.new.additions
    c.in_ok-taken.ensures.additions c.as_mut_slice.ensures.value c.sort_by_var.ensures middle c.sort.ensures.permutation in
    let within = All-weaker (λ (a : Addition). (0 < a.var) × (a.var ≤ var_count p)) (λ (a : Addition). a.var < length c.args.rows.now)
    (λ a h. omega (arith, h.1, c.requires.rows)) c.sort.new.additions (additions-vars ws c.sort.new.additions (var_count p) permuted) in
    subst (All (λ (a : Addition). a.var < length c.args.rows.now)) (sym is) within

pub returns-clause-gathered : goal.returns-clause-gathered
returns-clause-gathered c =
    let plain = to_z-of_z w32 c.args.priority c.ranges.priority in
    let are = weights_as c.args.compiled.now c.args.priority _ c.weights_at.new.weights c.weights_at.new.weights plain refl c.in_ok-items.ensures.weights in
    let small = small_as c.args.compiled.now c.args.priority _ plain c.in_ok-items.ensures.small in
    let p = c.args.compiled.now in
    let ws = c.weights_at.new.weights in
    let len = c.in_ok-taken.taken.additions.len in
    let long : length c.sort_by_var.new.additions ≡ len = c.sort_by_var.auto.additions ∙ c.as_mut_slice.ensures.len in
    let middle : c.as_mut_slice-2.result.now ≡ c.sort_by_var.new.additions = c.as_mut_slice-2.ensures.value ∙ take_at c.sort_by_var.new.additions _ len long in
    let length_is : length c.sort.new.additions ≡ len = c.sort.auto.additions ∙ c.as_mut_slice-2.ensures.len in
    let is : c.as_slice-2.result.now ≡ c.sort.new.additions = c.as_slice-2.ensures.value ∙ take_at c.sort.new.additions _ len length_is in
    let permuted =
    permuted-twice (additions_to ws (var_count p)) c.in_ok-taken.taken.additions.items c.as_mut_slice.result.now c.sort_by_var.new.additions
    c.as_mut_slice-2.result.now c.sort.new.additions
    c.in_ok-taken.ensures.additions c.as_mut_slice.ensures.value c.sort_by_var.ensures middle c.sort.ensures.permutation in
    let placed = subst (λ (xs : List Addition). ArePlaced c.args.level xs c.args.rows.now c.add_places.new.rows) is c.in_ok-column.ensures.rows in
    let made = c.in_ok-column.ensures.column ∙ ap (map item_of) is in
    gathered_as p c.args.level c.args.priority ws c.args.rows.now c.add_places.new.rows c.sort.new.additions c.in_ok-column.column.items _
    (var_count p) refl are small permuted c.sort.ensures.falling placed made
    (to_z-of_z w64 c.in_ok-taken.taken.least (search rules) ∙ c.in_ok-taken.ensures.least)
