use Rattle.std.proofs.Common.{◌≡◌, Bool, true, false, not, ◌||◌, sym, ap, ◌∙◌}
use Rattle.asp_model.specs.declared.program.Rule.{Rule}
use Rattle.asp_model.specs.Sets.{Atoms}
use Rattle.asp_model.specs.Holding.{body_holds}
use Rattle.asp_vars.specs.Numbering.{nth_rule}
use Rattle.asp_found.specs.Verdicts.{is_kept}
use Rattle.asp_found.proofs.ValueLaws.{rule_value}
use Rattle.asp_found.proofs.parts.keeps.Goals as goal

pub returns-then-not-holds : goal.returns-then-not-holds
returns-then-not-holds c =
    let S : Atoms = c.args.interp.now in
    let r : Rule = nth_rule c.args.compiled.now c.args.rule in
    let value = c.is_met-holds.ensures ∙ rule_value c.args.compiled.now S c.args.truths.now c.args.rule c.rule_lit.result c.requires.truths c.requires.read c.requires.rule c.rule_lit.ensures.lit in
    let fails : body_holds S r.body ≡ false = sym value ∙ c.if-not-holds.true in
    ap not c.if-not-holds.true ∙ sym (ap (λ (b : Bool). not b || is_kept S r.head) fails)

pub returns-else-not-holds : goal.returns-else-not-holds
returns-else-not-holds c =
    let S : Atoms = c.args.interp.now in
    let r : Rule = nth_rule c.args.compiled.now c.args.rule in
    let value = c.is_met-holds.ensures ∙ rule_value c.args.compiled.now S c.args.truths.now c.args.rule c.rule_lit.result c.requires.truths c.requires.read c.requires.rule c.rule_lit.ensures.lit in
    let holds : body_holds S r.body ≡ true = sym value ∙ c.if-not-holds.false in
    c.is_kept.ensures ∙ ap (λ (x : Rule). is_kept S x.head) c.rule.ensures ∙ sym (ap (λ (b : Bool). not b || is_kept S r.head) holds)
