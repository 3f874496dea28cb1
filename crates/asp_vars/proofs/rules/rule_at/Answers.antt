use Rattle.std.proofs.Common.{◌≡◌, ◌++◌, ◌<◌, ◌≤◌, length, get_or, sym, ◌∙◌, subst, arith}
use Rattle.std.proofs.lemmas.List.{get_or_append_left, get_or-append_right}
use Rattle.asp_model.specs.declared.program.Rule.{Rule}
use Rattle.asp_model.specs.Views.{rule_seen}
use Rattle.asp_vars.proofs.rules.rule_at.Goals as goal

pub returns-then-rule-len : goal.returns-then-rule-len
returns-then-rule-len c =
    let lt : c.args.rule < length c.args.rules.now = omega (arith, c.if-rule-len.true, c.len.ensures) in
    c.rule.ensures ∙ sym (get_or_append_left c.args.rules.now c.args.opened.now (rule_seen c.rule.result) c.args.rule lt)

pub returns-else-rule-len : goal.returns-else-rule-len
returns-else-rule-len c =
    let r : Rule = c.index-opened-rule.result in
    let front : length c.args.rules.now ≡ c.len-else-rule-len.result = omega (arith, c.len-else-rule-len.ensures) in
    let le : c.len-else-rule-len.result ≤ c.args.rule = omega (arith, c.if-rule-len.false, c.len.ensures, c.len-else-rule-len.ensures) in
    subst (λ (v : Rule). v ≡ get_or (c.args.rules.now ++ c.args.opened.now) c.args.rule v) (sym c.view.ensures)
    (c.index-opened-rule.is ∙ sym (get_or-append_right c.args.rules.now c.args.opened.now c.len-else-rule-len.result c.args.rule r front le))
