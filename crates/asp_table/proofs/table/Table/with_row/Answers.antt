use Rattle.std.proofs.Common.{ℕ, List, [], ◌∷◌, ◌++◌, length, sym, ap, ◌∙◌, subst}
use Rattle.asp_table.specs.Tables.{rows_from, AreStarts}
use Rattle.asp_table.proofs.TableLaws.{rows_from-push, AreStarts-push}
use Rattle.asp_table.proofs.table.Table.with_row.Goals as goal

pub invariant_of-result : goal.invariant_of-result
invariant_of-result g c =
    let starts : List ℕ = c.self.inside.starts.items in
    let items = c.self.inside.items.items in
    let items_are = c.in_ok-extend_from_slice.ensures.items in
    let starts_are = c.in_ok-push.ensures.items ∙ ap (λ n. starts ++ n ∷ []) (c.in_ok-end.ensures ∙ ap length (c.as_slice.ensures.value ∙ items_are)) in
    subst (λ ys. AreStarts c.push.new.self.items ys) (sym items_are)
    (subst (λ (xs : List ℕ). AreStarts xs (items ++ c.args.row.now)) (sym starts_are) (AreStarts-push starts items c.args.row.now c.self.invariant))

pub returns : goal.returns
returns g c =
    let starts : List ℕ = c.self.inside.starts.items in
    let items = c.self.inside.items.items in
    let items_are = c.in_ok-extend_from_slice.ensures.items in
    let starts_are = c.in_ok-push.ensures.items ∙ ap (λ n. starts ++ n ∷ []) (c.in_ok-end.ensures ∙ ap length (c.as_slice.ensures.value ∙ items_are)) in
    ap (λ ys. rows_from c.push.new.self.items ys) items_are
    ∙ ap (λ (xs : List ℕ). rows_from xs (items ++ c.args.row.now)) starts_are
    ∙ rows_from-push starts items c.args.row.now c.self.invariant
    ∙ ap (λ rows. rows ++ c.args.row.now ∷ []) c.self.view_is
