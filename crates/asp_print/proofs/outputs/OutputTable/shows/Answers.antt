use Rattle.std.proofs.Common.{◌∙◌, ap, sym, subst, arith}
use Rattle.std.specs.Prelude.{not}
use Rattle.asp_model.specs.Sets.{has}
use Rattle.asp_print.specs.Rows.{IsConditionOf}
use Rattle.asp_print.proofs.ConditionLaws.{condition_at, conditions-length}
use Rattle.asp_print.proofs.outputs.OutputTable.shows.Goals as goal

pub index-requires : goal.index-requires
index-requires c = let same = conditions-length c.args.atoms.now c.args.outputs.now c.args.self.now.conditions.items c.requires.table.conditions in omega (arith, same, c.requires.within)

pub returns-in-Always : goal.returns-in-Always
returns-in-Always c =
    let w = condition_at c.args.atoms.now c.args.outputs.now c.args.self.now.conditions.items c.args.i c.index.result.now c.requires.within c.requires.table.conditions c.index.ensures in
    sym (w.1 c.args.row.now.set ∙ subst (IsConditionOf c.args.atoms.now w.0.condition) c.in-Always.is w.2 c.args.row.now.set c.requires.row.1.among)

pub returns-in-Never : goal.returns-in-Never
returns-in-Never c =
    let w = condition_at c.args.atoms.now c.args.outputs.now c.args.self.now.conditions.items c.args.i c.index.result.now c.requires.within c.requires.table.conditions c.index.ensures in
    sym (w.1 c.args.row.now.set ∙ subst (IsConditionOf c.args.atoms.now w.0.condition) c.in-Never.is w.2 c.args.row.now.set c.requires.row.1.among)

pub has-requires-clause-bit : goal.has-requires-clause-bit
has-requires-clause-bit c =
    let w = condition_at c.args.atoms.now c.args.outputs.now c.args.self.now.conditions.items c.args.i c.index.result.now c.requires.within c.requires.table.conditions c.index.ensures in
    let says = subst (IsConditionOf c.args.atoms.now w.0.condition) c.in-With.is w.2 in
    (says.1.place, says.1.at)

pub returns-in-With : goal.returns-in-With
returns-in-With c =
    let w = condition_at c.args.atoms.now c.args.outputs.now c.args.self.now.conditions.items c.args.i c.index.result.now c.requires.within c.requires.table.conditions c.index.ensures in
    let says = subst (IsConditionOf c.args.atoms.now w.0.condition) c.in-With.is w.2 in
    c.has.ensures says.1.place says.1.at ∙ ap (has c.args.row.now.set) says.1.is ∙ sym (w.1 c.args.row.now.set ∙ says.2 c.args.row.now.set)

pub has-requires-in-Without-clause-bit : goal.has-requires-in-Without-clause-bit
has-requires-in-Without-clause-bit c =
    let w = condition_at c.args.atoms.now c.args.outputs.now c.args.self.now.conditions.items c.args.i c.index.result.now c.requires.within c.requires.table.conditions c.index.ensures in
    let says = subst (IsConditionOf c.args.atoms.now w.0.condition) c.in-Without.is w.2 in
    (says.1.place, says.1.at)

pub returns-in-Without : goal.returns-in-Without
returns-in-Without c =
    let w = condition_at c.args.atoms.now c.args.outputs.now c.args.self.now.conditions.items c.args.i c.index.result.now c.requires.within c.requires.table.conditions c.index.ensures in
    let says = subst (IsConditionOf c.args.atoms.now w.0.condition) c.in-Without.is w.2 in
    ap not (c.has-in-Without.ensures says.1.place says.1.at ∙ ap (has c.args.row.now.set) says.1.is) ∙ sym (w.1 c.args.row.now.set ∙ says.2 c.args.row.now.set)
