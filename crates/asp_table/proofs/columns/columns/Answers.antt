use Rattle.std.proofs.Common.{◌<◌, ℕ, List, [], length, get_or, take, ap, ◌∙◌, subst, sym, arith}
use Rattle.asp_table.specs.declared.columns.Occurrence.{Occurrence}
use Rattle.asp_table.specs.Columns.{ends_in}
use Rattle.asp_table.proofs.ColumnLaws.{column_ends, row_step}
use Rattle.std.proofs.lemmas.List.{length-take}
use Rattle.asp_table.proofs.columns.columns.Goals as goal

pub add_row-requires-clause-new : goal.add_row-requires-clause-new
add_row-requires-clause-new c =
    let i : ℕ = c.loop-body.body in
    let rows : List (List ℕ) = c.args.rows.now in
    let few = length-take i rows in
    λ k lt.
    ap (λ (cells : List Occurrence). ends_in cells i) (c.loop-body.invariant.cells k (subst (λ (n : ℕ). k < n) c.loop-body.invariant.count lt))
    ∙ column_ends k (take i rows) i (omega (arith, few))

pub loop-body-preserved : goal.loop-body-preserved
loop-body-preserved c =
    let i : ℕ = c.loop-body.body in
    let rows : List (List ℕ) = c.args.rows.now in
    let lt : i < length rows = subst (λ (n : ℕ). i < n) c.len-body-end.ensures c.loop-body-test.true in
    record {
      count = c.in_ok-add_row.ensures.count ∙ c.loop-body.invariant.count;
      cells = λ k within.
          row_step (get_or c.add_row.new.columns k []) (get_or c.loop-body.columns k []) rows i k c.row.result.now lt (sym c.row.ensures) (c.loop-body.invariant.cells k within)
          (c.in_ok-add_row.ensures.cells k (subst (λ (n : ℕ). k < n) (sym c.loop-body.invariant.count) within));
    }
