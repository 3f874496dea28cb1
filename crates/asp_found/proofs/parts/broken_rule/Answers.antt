use Rattle.std.proofs.Common.{◌≡◌, ℕ, ◌<◌, false, length, refl, sym, ap, ◌∙◌, subst, arith}
use Rattle.asp_model.specs.declared.program.Program.{Program}
use Rattle.asp_model.specs.declared.program.Rule.{Rule}
use Rattle.asp_model.specs.Sets.{Atoms}
use Rattle.asp_model.specs.Models.{rules_in_force}
use Rattle.asp_model.specs.Views.{rule_seen}
use Rattle.asp_vars.specs.declared.nogood.Base.TheVariants as base
use Rattle.asp_vars.specs.declared.nogood.Nogood.{Nogood}
use Rattle.asp_vars.specs.Numbering.{literal_of_body, nth_rule}
use Rattle.asp_found.specs.Verdicts.{rule_literals, IsBroken, keeps}
use Rattle.asp_found.proofs.VerdictLaws.{rule_broken}
use Rattle.asp_found.proofs.PartLaws.{item_stands, item_among, rule_at, keeps_more}
use Rattle.asp_found.proofs.parts.broken_rule.Goals as goal

pub rule_nogood-requires-clause-stand : goal.rule_nogood-requires-clause-stand
rule_nogood-requires-clause-stand c =
    let lt : c.loop-i.i < length (rules_in_force c.args.compiled.now) = omega (arith, c.loop-i-test.true, c.rule_count-i-end.ensures) in
    item_stands c.args.compiled.now (rule_seen c.rule.result) c.loop-i.i lt (rule_at c.args.compiled.now (rule_seen c.rule.result) c.loop-i.i lt c.rule.ensures)

pub loop-i-preserved : goal.loop-i-preserved
loop-i-preserved c =
    let p : Program = c.args.compiled.now in
    let lt : c.loop-i.i < length (rules_in_force p) = omega (arith, c.loop-i-test.true, c.rule_count-i-end.ensures) in
    keeps_more p c.args.interp.now (nth_rule p c.loop-i.i) c.loop-i.i lt (rule_at p (nth_rule p c.loop-i.i) c.loop-i.i lt refl) c.loop-i.invariant (sym c.keeps-kept.ensures ∙ c.if-not-kept.false)

pub returns-then-not-kept : goal.returns-then-not-kept
returns-then-not-kept c =
    let p : Program = c.args.compiled.now in
    let S : Atoms = c.args.interp.now in
    let i : ℕ = c.loop-i.i in
    let r : Rule = nth_rule p i in
    let lt : i < length (rules_in_force p) = omega (arith, c.loop-i-test.true, c.rule_count-i-end.ensures) in
    let fails : keeps S r ≡ false = sym c.keeps-kept.ensures ∙ c.if-not-kept.true in
    let nogood : c.in_ok-nogood.nogood ≡ record { lits = rule_literals p (literal_of_body p r.body) r.head; base = base.Pure } =
    c.in_ok-nogood.ensures ∙ ap (λ (x : Rule). let n : Nogood = record { lits = rule_literals p (literal_of_body p r.body) x.head; base = base.Pure } in n) c.rule.ensures in
    subst (λ (n : Nogood). IsBroken p S n) (sym nogood)
    (rule_broken p S r r.head c.program-program.ensures.sound c.requires.read (item_among p r i lt (rule_at p r i lt refl)) refl (item_stands p r i lt (rule_at p r i lt refl)) fails)
