use Rattle.std.proofs.Common.{not, ap, ◌∙◌}
use Rattle.asp_model.specs.declared.program.Rule.{Rule}
use Rattle.asp_vars.specs.Literals.{holds_in}
use Rattle.asp_vars.specs.Numbering.{nth_rule}
use Rattle.asp_found.specs.Verdicts.{is_kept}
use Rattle.asp_member.specs.Founding.{passes}
use Rattle.asp_member.proofs.FoundingLaws.{rule_body}
use Rattle.asp_checker.proofs.MemberLaws.{kept_keeps, unkept_keeps}
use Rattle.asp_checker.proofs.members.keeps.Goals as goal

pub returns-then-is_kept : goal.returns-then-is_kept
returns-then-is_kept c =
    kept_keeps c.args.compiled.now c.args.set.now c.args.values.now (nth_rule c.args.compiled.now c.args.rule)
    (c.if-is_kept.ensures ∙ ap (λ (r : Rule). is_kept c.args.set.now r.head) c.rule.ensures)

pub returns : goal.returns
returns c =
    let p = c.args.compiled.now in
    let body = rule_body p c.args.rule c.rule_body.result c.requires.rule c.rule_body.ensures.place in
    ap not (c.holds-held.ensures ∙ ap (passes p (holds_in c.args.values.now)) body)
    ∙ unkept_keeps p c.args.set.now c.args.values.now (nth_rule p c.args.rule) (c.if-is_kept.ensures ∙ ap (λ (r : Rule). is_kept c.args.set.now r.head) c.rule.ensures)
