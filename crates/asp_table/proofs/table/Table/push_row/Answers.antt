use Rattle.std.proofs.Common.{◌≡◌, ◌+◌, ℕ, List, [], ◌∷◌, ◌++◌, length, sym, ap, ◌∙◌, subst, arith, length-append}
use Rattle.asp_table.specs.Tables.{rows_from, AreStarts}
use Rattle.asp_table.proofs.TableLaws.{rows_from-push, AreStarts-push}
use Rattle.asp_table.proofs.table.Table.push_row.Goals as goal

pub invariant_of-self-2 : goal.invariant_of-self-2
invariant_of-self-2 g c =
    let starts : List ℕ = c.self.inside.starts.items in
    let items = c.self.inside.items.items in
    let items_are = c.in_ok-extend_from_slice.ensures.items in
    let end : c.in_ok-end.end ≡ length (items ++ c.args.row.now) = omega (arith, c.in_ok-end.ensures, c.len.ensures, length-append items c.args.row.now) in
    let starts_are = c.push_reserved.ensures.items ∙ ap (λ (xs : List ℕ). xs ++ c.in_ok-end.end ∷ []) c.in_ok-reserve.ensures.items ∙ ap (λ n. starts ++ n ∷ []) end in
    subst (λ ys. AreStarts c.push_reserved.new.self.items ys) (sym items_are)
    (subst (λ (xs : List ℕ). AreStarts xs (items ++ c.args.row.now)) (sym starts_are) (AreStarts-push starts items c.args.row.now c.self.invariant))

pub returns-clause-ok : goal.returns-clause-ok
returns-clause-ok g c =
    let starts : List ℕ = c.self.inside.starts.items in
    let items = c.self.inside.items.items in
    let items_are = c.in_ok-extend_from_slice.ensures.items in
    let end : c.in_ok-end.end ≡ length (items ++ c.args.row.now) = omega (arith, c.in_ok-end.ensures, c.len.ensures, length-append items c.args.row.now) in
    let starts_are = c.push_reserved.ensures.items ∙ ap (λ (xs : List ℕ). xs ++ c.in_ok-end.end ∷ []) c.in_ok-reserve.ensures.items ∙ ap (λ n. starts ++ n ∷ []) end in
    ap (λ ys. rows_from c.push_reserved.new.self.items ys) items_are
    ∙ ap (λ (xs : List ℕ). rows_from xs (items ++ c.args.row.now)) starts_are
    ∙ rows_from-push starts items c.args.row.now c.self.invariant
    ∙ ap (λ rows. rows ++ c.args.row.now ∷ []) c.self.view_is
