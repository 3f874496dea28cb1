use Rattle.std.proofs.Common.{sym, ap, ◌∙◌}
use Rattle.asp_model.specs.declared.program.Rule.{Rule}
use Rattle.asp_vars.specs.Literals.{holds_in}
use Rattle.asp_vars.specs.Numbering.{nth_rule}
use Rattle.asp_found.specs.Verdicts.{is_kept}
use Rattle.asp_member.specs.Founding.{passes}
use Rattle.asp_member.proofs.FoundingLaws.{rule_body, idle_keeps, active_keeps}
use Rattle.asp_member.proofs.stable.keeps.Goals as goal

pub returns-then-not-holds : goal.returns-then-not-holds
returns-then-not-holds c =
    let p = c.args.compiled.now in
    let body = rule_body p c.args.rule c.rule_body.result c.requires.rule c.rule_body.ensures.place in
    idle_keeps p c.args.set.now c.args.values.now (nth_rule p c.args.rule) (sym (c.holds.ensures ∙ ap (passes p (holds_in c.args.values.now)) body) ∙ c.if-not-holds.true)

pub returns : goal.returns
returns c =
    let p = c.args.compiled.now in
    let body = rule_body p c.args.rule c.rule_body.result c.requires.rule c.rule_body.ensures.place in
    c.is_kept.ensures ∙ ap (λ (r : Rule). is_kept c.args.set.now r.head) c.rule.ensures
    ∙ active_keeps p c.args.set.now c.args.values.now (nth_rule p c.args.rule) (sym (c.holds.ensures ∙ ap (passes p (holds_in c.args.values.now)) body) ∙ c.if-not-holds.false)
