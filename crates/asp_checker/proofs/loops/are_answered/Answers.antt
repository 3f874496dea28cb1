use Rattle.std.proofs.Common.{◌<◌, ◌≤◌, [], length, arith, sym}
use Rattle.asp_model.specs.declared.program.Body.TheVariants as body
use Rattle.asp_model.specs.declared.program.Head.TheVariants as head
use Rattle.asp_model.specs.declared.program.Rule.{Rule}
use Rattle.asp_model.specs.Models.{rules_in_force}
use Rattle.asp_checker.specs.Loops.{is_answered_rule}
use Rattle.asp_checker.proofs.FoundLaws.{all_not_at, all_more, all_whole}
use Rattle.asp_checker.proofs.loops.are_answered.Goals as goal

-- the rule past the last
abbrev no_rule : Rule
no_rule = record { head = head.Never; body = body.All [] }

pub returns-then-not-is_answered_rule : goal.returns-then-not-is_answered_rule
returns-then-not-is_answered_rule c =
    let lt : c.loop-rule.rule < length (rules_in_force c.args.compiled.now) = omega (arith, c.loop-rule-test.true, c.rule_count-rule-end.ensures) in
    all_not_at (is_answered_rule c.args.compiled.now c.args.set.now c.args.nogood.now) (rules_in_force c.args.compiled.now) c.loop-rule.rule no_rule lt (sym c.if-not-is_answered_rule.ensures)

pub loop-rule-preserved : goal.loop-rule-preserved
loop-rule-preserved c =
    let lt : c.loop-rule.rule < length (rules_in_force c.args.compiled.now) = omega (arith, c.loop-rule-test.true, c.rule_count-rule-end.ensures) in
    all_more (is_answered_rule c.args.compiled.now c.args.set.now c.args.nogood.now) (rules_in_force c.args.compiled.now) c.loop-rule.rule no_rule lt
    c.loop-rule.invariant (sym c.if-not-is_answered_rule.ensures)

pub returns : goal.returns
returns c =
    let le : length (rules_in_force c.args.compiled.now) ≤ c.loop-rule.rule = omega (arith, c.loop-rule-test.false, c.rule_count-rule-end.ensures) in
    all_whole (is_answered_rule c.args.compiled.now c.args.set.now c.args.nogood.now) (rules_in_force c.args.compiled.now) c.loop-rule.rule le c.loop-rule.invariant
