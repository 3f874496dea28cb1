use Rattle.std.proofs.Common.{◌<◌, ℤ, List, length, get_or, sym, ap, ◌∙◌, subst, arith}
use Rattle.asp_model.specs.declared.extras.Extras.{Extras}
use Rattle.asp_model.specs.declared.extras.Mark.{Mark}
use Rattle.asp_model.specs.declared.program.Rule.{Rule}
use Rattle.asp_model.specs.Stored.{rule_of, IsStored}
use Rattle.asp_model.specs.Views.{rule_seen}
use Rattle.asp_model.proofs.StoredLaws.{length-rules_of, length-rows, stored_at, rules_of-at}
use Rattle.asp_model.proofs.rules.Rules.rule.Goals as goal

pub index-mark-requires : goal.index-mark-requires
index-mark-requires c = omega (arith, c.requires, length-rules_of c.self.inside.extras c.self.inside.marks.items c.self.inside.literals c.self.invariant, ap length c.self.view_is)

pub row-requires : goal.row-requires
row-requires c =
    let rules = length-rules_of c.self.inside.extras c.self.inside.marks.items c.self.inside.literals c.self.invariant in
    let rows = length-rows c.self.inside.extras c.self.inside.marks.items c.self.inside.literals c.self.invariant in
    omega (arith, c.requires, rules, rows, ap length c.self.view_is)

pub rule_at-requires : goal.rule_at-requires
rule_at-requires c =
    let ms : List Mark = c.self.inside.marks.items in
    let lt : c.args.rule < length ms = omega (arith, c.requires, length-rules_of c.self.inside.extras ms c.self.inside.literals c.self.invariant, ap length c.self.view_is) in
    subst (λ (m : Mark). IsStored c.self.inside.extras m) (sym c.index-mark.ensures) (stored_at c.self.inside.extras ms c.self.inside.literals c.args.rule c.index-mark.result.now c.self.invariant lt)

pub returns : goal.returns
returns c =
    let e : Extras = c.self.inside.extras in
    let ms : List Mark = c.self.inside.marks.items in
    let rows : List (List ℤ) = c.self.inside.literals in
    let r : Rule = rule_seen c.rule_at.result in
    let lt : c.args.rule < length ms = omega (arith, c.requires, length-rules_of e ms rows c.self.invariant, ap length c.self.view_is) in
    c.rule_at.ensures
    ∙ ap (λ (m : Mark). rule_of e m c.row.result.now) c.index-mark.ensures
    ∙ ap (λ (row : List ℤ). rule_of e (get_or ms c.args.rule c.index-mark.result.now) row) c.row.ensures
    ∙ sym (rules_of-at e ms rows c.args.rule c.index-mark.result.now r c.self.invariant lt)
    ∙ ap (λ (rs : List Rule). get_or rs c.args.rule r) c.self.view_is
