use Rattle.std.proofs.Common.{◌≡◌, ℕ, ◌∷◌, ◌++◌, [], List, length, ap, ◌∙◌, arith}
use Rattle.asp_model.specs.declared.program.Output.{Output}
use Rattle.asp_model.specs.Views.{output_seen}
use Rattle.asp_model.proofs.OutputLaws.{outputs_kept, outputs_more}
use Rattle.asp_model.proofs.StoredLaws.{on_err}
use Rattle.asp_model.proofs.outputs.Outputs.push.Goals as goal

pub invariant_of-self-in_err-push_row-2 : goal.invariant_of-self-in_err-push_row-2
invariant_of-self-in_err-push_row-2 c =
    (outputs_kept c.self.inside.conditions c.push_row.new.self c.args.output.condition.now c.self.inside.rows.items c.reserve.new.self.items
    c.self.inside.texts c.push_row-2.new.self c.in_ok-push_row.ensures.ok c.in_ok-reserve.ensures.items c.in_err-push_row-2.ensures.err
    c.self.invariant).0

pub returns-in_err-push_row-2-clause-err : goal.returns-in_err-push_row-2-clause-err
returns-in_err-push_row-2-clause-err c =
    on_err c.from_residual-in_err-push_row-2.result
    ((outputs_kept c.self.inside.conditions c.push_row.new.self c.args.output.condition.now c.self.inside.rows.items c.reserve.new.self.items
    c.self.inside.texts c.push_row-2.new.self c.in_ok-push_row.ensures.ok c.in_ok-reserve.ensures.items c.in_err-push_row-2.ensures.err
    c.self.invariant).1 ∙ c.self.view_is)

pub invariant_of-self-2 : goal.invariant_of-self-2
invariant_of-self-2 c =
    let rows = c.push_reserved.ensures.items ∙ ap (λ (xs : List ℕ). xs ++ c.in_ok-row.row ∷ []) c.in_ok-reserve.ensures.items in
    let row : c.in_ok-row.row ≡ length c.self.inside.conditions = omega (arith, c.in_ok-row.ensures, c.len.ensures) in
    let more =
    outputs_more c.self.inside.conditions c.push_row.new.self c.args.output.condition.now c.self.inside.rows.items c.push_reserved.new.self.items
    c.self.inside.texts c.push_row-2.new.self c.in_ok-row.row c.args.output.text.now c.in_ok-push_row.ensures.ok row rows
    c.in_ok-push_row-2.ensures.ok c.self.invariant in
    more.0

pub returns-clause-ok : goal.returns-clause-ok
returns-clause-ok c =
    let rows = c.push_reserved.ensures.items ∙ ap (λ (xs : List ℕ). xs ++ c.in_ok-row.row ∷ []) c.in_ok-reserve.ensures.items in
    let row : c.in_ok-row.row ≡ length c.self.inside.conditions = omega (arith, c.in_ok-row.ensures, c.len.ensures) in
    let more =
    outputs_more c.self.inside.conditions c.push_row.new.self c.args.output.condition.now c.self.inside.rows.items c.push_reserved.new.self.items
    c.self.inside.texts c.push_row-2.new.self c.in_ok-row.row c.args.output.text.now c.in_ok-push_row.ensures.ok row rows
    c.in_ok-push_row-2.ensures.ok c.self.invariant in
    more.1 ∙ ap (λ (os : List Output). os ++ output_seen c.args.output ∷ []) c.self.view_is
