use Rattle.std.proofs.Common.{sym, ap, ◌∙◌}
use Rattle.std.specs.List.{list_any}
use Rattle.asp_model.specs.declared.program.Program.{Program}
use Rattle.asp_model.specs.declared.program.Rule.{Rule}
use Rattle.asp_model.specs.Sets.{has}
use Rattle.asp_model.specs.Models.{head_atoms}
use Rattle.asp_vars.specs.Numbering.{nth_rule}
use Rattle.asp_checker.specs.Lines.{is_answered}
use Rattle.asp_member.proofs.FoundingLaws.{rule_body}
use Rattle.asp_checker.proofs.FoundLaws.{outside_rule, inside_rule}
use Rattle.asp_checker.proofs.loops.is_answered_rule.Goals as goal

pub returns-then-not-inside : goal.returns-then-not-inside
returns-then-not-inside c =
    outside_rule c.args.compiled.now c.args.set.now c.args.nogood.now (nth_rule c.args.compiled.now c.args.rule)
    (ap (λ (r : Rule). list_any (has c.args.set.now) (head_atoms r.head)) (sym c.rule.ensures) ∙ sym c.is_some_inside-inside.ensures ∙ c.if-not-inside.true)

pub returns : goal.returns
returns c =
    let p : Program = c.args.compiled.now in
    inside_rule p c.args.set.now c.args.nogood.now (nth_rule p c.args.rule) c.is_answered.result
    (ap (λ (r : Rule). list_any (has c.args.set.now) (head_atoms r.head)) (sym c.rule.ensures) ∙ sym c.is_some_inside-inside.ensures ∙ c.if-not-inside.false)
    (c.is_answered.ensures c.args.set.now c.requires.vars ∙ ap (is_answered p c.args.set.now c.args.nogood.now) (rule_body p c.args.rule c.rule_body.result c.requires.rule c.rule_body.ensures.place))
