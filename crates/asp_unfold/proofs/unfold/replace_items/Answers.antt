use Rattle.std.proofs.Common.{◌≡◌, ◌∙◌, ◌<◌, ℤ, length, get_or, set, pos, w32, to_z, of_z, ap, arith, rules}
use Rattle.std.proofs.lemmas.Int.{to_z-of_z}
use Rattle.std.proofs.lemmas.List.{get_or_default}
use Rattle.std.proofs.lemmas.List.Edits.{map_over_more}
use Rattle.asp_unfold.specs.Tables.{table_literal}
use Rattle.asp_unfold.proofs.unfold.replace_items.Goals as goal

pub loop-item-preserved : goal.loop-item-preserved
loop-item-preserved c =
    let i = c.loop-item.item-index in
    let ys = c.loop-item.items in
    let x : ℤ × ℤ = get_or ys i (pos 0, pos 0) in
    let f : ℤ × ℤ → ℤ × ℤ = λ y. (table_literal c.args.table.now y.0, y.1) in
    let lt : i < length c.args.items.now = omega arith in
    let read : to_z w32 (of_z w32 x.0) ≡ x.0 = to_z-of_z w32 x.0 (search rules) in
    let new : to_z w32 (of_z w32 c.table_literal-item.result) ≡ table_literal c.args.table.now x.0 =
    to_z-of_z w32 c.table_literal-item.result (search rules) ∙ (c.table_literal-item.ensures ∙ ap (table_literal c.args.table.now) read) in
    let one : ℤ → ℤ × ℤ = λ l. (l, x.1) in
    ap (λ (l : ℤ). set ys i (one l)) new ∙ map_over_more f c.args.items.now ys i x lt c.loop-item.invariant (get_or_default ys i (pos 0, pos 0) x (omega arith))
