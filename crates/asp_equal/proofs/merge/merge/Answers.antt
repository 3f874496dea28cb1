use Rattle.std.proofs.Common.{◌≡◌, [], length, eqb-true, sym, ◌∙◌}
use Rattle.std.proofs.lemmas.List.{nil_from_length}
use Rattle.asp_equal.proofs.NoneLaws.{merged-none}
use Rattle.asp_equal.proofs.TableLaws.{copies-are, merged-is}
use Rattle.asp_equal.proofs.merge.merge.Goals as goal

pub returns-then-is_empty-clause-copies : goal.returns-then-is_empty-clause-copies
returns-then-is_empty-clause-copies c = c.from_vec-copies.ensures ∙ c.in_ok-copies.ensures ∙ copies-are c.args.program c.in_ok-table.table c.in_ok-table.ensures

pub returns-then-is_empty-clause-left : goal.returns-then-is_empty-clause-left
returns-then-is_empty-clause-left c =
    let none : c.as_slice.result.now ≡ [] = nil_from_length c.as_slice.result.now (eqb-true (length c.as_slice.result.now) 0 (sym c.is_empty.ensures ∙ c.if-is_empty.true)) in
    let are = c.from_vec-copies.ensures ∙ c.in_ok-copies.ensures ∙ copies-are c.args.program c.in_ok-table.table c.in_ok-table.ensures in
    sym (merged-none c.args.program (sym are ∙ sym c.as_slice.ensures.value ∙ none))

pub returns-clause-copies : goal.returns-clause-copies
returns-clause-copies c = c.from_vec-copies.ensures ∙ c.in_ok-copies.ensures ∙ copies-are c.args.program c.in_ok-table.table c.in_ok-table.ensures

pub returns-clause-left : goal.returns-clause-left
returns-clause-left c = c.in_ok-left.ensures ∙ merged-is c.args.program c.in_ok-table.table c.in_ok-table.ensures
