use Rattle.std.proofs.Common.{◌∙◌, List, to_z, of_z, w32, arith, ap}
use Rattle.std.proofs.lemmas.Int.{to_z-of_z}
use Rattle.std.proofs.lemmas.List.{take_all}
use Rattle.asp_model.specs.declared.program.Minimize.{Minimize}
use Rattle.asp_bound.specs.Optimism.{items_at}
use Rattle.asp_bound.proofs.WeightLaws.{items_at-step}
use Rattle.asp_checker.proofs.levels.items_at.Goals as goal

pub loop-statement-preserved : goal.loop-statement-preserved
loop-statement-preserved c =
    items_at-step c.args.statements.now c.loop-statement.statement-index c.statement-item.result _ c.loop-statement.items.items
    c.add_items.new.items.items (omega arith) c.statement-item.is c.loop-statement.invariant c.in_ok-add_items.ensures

pub returns : goal.returns
returns c =
    let plain = to_z-of_z w32 c.args.priority c.ranges.priority in
    let all = take_all c.loop-statement.statement-index c.args.statements.now (omega arith) in
    c.loop-statement.invariant ∙ (ap (λ (ms : List Minimize). items_at ms (to_z w32 (of_z w32 c.args.priority))) all ∙ ap (items_at c.args.statements.now) plain)
