use Rattle.std.proofs.Common.{◌∙◌, ap, sym, subst, List, length}
use Rattle.std.proofs.lemmas.List.Sorted.{length_permutation}
use Rattle.asp_vars.specs.Numbering.{nth_body}
use Rattle.asp_vars.proofs.RowLaws.{literal_vars}
use Rattle.asp_weight.specs.declared.item.Item.{Item}
use Rattle.asp_weight.specs.Rows.{IsOrdered}
use Rattle.asp_weight.proofs.BuildLaws.{row_items_of, same_items, ordered, sorted_whole}
use Rattle.asp_weight.proofs.rows.row.Goals as goal

pub returns : goal.returns
returns c =
    let p = c.args.compiled.now in
    let b = nth_body p c.args.body in
    let is = row_items_of p b c.in_ok-row.row.items c.literals.result.now c.weights.result.now c.in_ok-row.ensures c.literals.ensures.literals c.weights.ensures in
    let same = same_items p b c.in_ok-row.row.items c.as_mut_slice.result.now c.sort.new.items is c.as_mut_slice.ensures.value c.sort.ensures.items in
    subst (λ (xs : List Item). IsOrdered p b xs) (sym (sorted_whole c.sort.new.items c.in_ok-row.row.items c.in_ok-row.row.len c.in_ok-row.row.ok.0
    (length_permutation c.as_mut_slice.result.now c.sort.new.items c.sort.ensures.items ∙ ap length c.as_mut_slice.ensures.value)))
    (ordered p c.args.body c.sort.new.items c.program-program.ensures.sound c.requires (literal_vars p c.args.body c.requires) same c.sort.ensures.falling)
