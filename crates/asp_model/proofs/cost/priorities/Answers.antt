use Rattle.std.proofs.Common.{ℕ, List, [], take, get_or, sym, ap, ◌∙◌, w32, rules}
use Rattle.std.specs.Prelude.{ℤ}
use Rattle.std.proofs.lemmas.Int.{to_z-of_z}
use Rattle.std.proofs.lemmas.List.{take_more, take_all}
use Rattle.std.proofs.lemmas.List.Sums.{fold_push}
use Rattle.asp_model.specs.declared.program.Minimize.{Minimize}
use Rattle.asp_model.specs.Costs.{with_priority, priorities}
use Rattle.asp_model.proofs.cost.priorities.Goals as goal

pub loop-statement-preserved : goal.loop-statement-preserved
loop-statement-preserved c =
    let ms : List Minimize = c.args.statements.now in
    let i : ℕ = c.loop-statement.statement-index in
    let m : Minimize = c.statement-item.result in
    let f : List ℤ → Minimize → List ℤ = λ qs x. with_priority x.priority qs in
    let plain = to_z-of_z w32 m.priority (search rules) in
    c.in_ok-add_priority.ensures
    ∙ ap (λ q. with_priority q c.loop-statement.list.items) plain
    ∙ ap (with_priority m.priority) c.loop-statement.invariant
    ∙ ap (λ x. f (priorities (take i ms)) x) c.statement-item.is
    ∙ sym (fold_push f [] (take i ms) (get_or ms i m))
    ∙ ap priorities (sym (take_more ms i m c.loop-statement-test.true))

pub returns : goal.returns
returns c = c.loop-statement.invariant ∙ ap priorities (take_all c.loop-statement.statement-index c.args.statements.now c.loop-statement-test.false)
