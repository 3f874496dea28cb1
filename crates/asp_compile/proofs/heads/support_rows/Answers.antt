use Rattle.std.proofs.Common.{◌≡◌, ◌<◌, ◌+◌, ◌++◌, ◌∷◌, [], ℕ, List, map, get_or, length, ap, ◌∙◌, subst}
use Rattle.asp_table.specs.declared.columns.Occurrence.{Occurrence}
use Rattle.asp_compile.proofs.HeadLaws.{map_more}
use Rattle.asp_compile.proofs.heads.support_rows.Goals as goal

pub loop-row-preserved : goal.loop-row-preserved
loop-row-preserved c =
    let f : List Occurrence → List ℕ = map (λ (o : Occurrence). c.args.first + o.body) in
    let rows : List (List Occurrence) = c.args.rows.now in
    let i : ℕ = c.loop-row.row in
    let lt : i < length rows = subst (λ (n : ℕ). i < n) c.len-row-end.ensures c.loop-row-test.true in
    let row : c.as_slice.result.now ≡ f (get_or rows i []) = c.as_slice.ensures.value ∙ c.in_ok-row.ensures ∙ ap f c.row.ensures in
    c.in_ok-supports-2.ensures
    ∙ ap (λ (r : List ℕ). c.loop-row.supports ++ r ∷ []) row
    ∙ ap (λ (t : List (List ℕ)). t ++ f (get_or rows i []) ∷ []) c.loop-row.invariant
    ∙ map_more f rows i [] lt
