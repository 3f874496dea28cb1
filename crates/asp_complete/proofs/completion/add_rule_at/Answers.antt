use Rattle.std.proofs.Common.{◌≡◌, ◌++◌, ℕ, true, [], map, sym, ap, ◌∙◌, subst}
use Rattle.std.specs.List.{AllByRecursion}
use Rattle.std.specs.Result.{OnOk}
use Rattle.asp_model.specs.declared.program.Body.TheVariants as body
use Rattle.asp_model.specs.declared.program.Head.TheVariants as head
use Rattle.asp_model.specs.declared.program.Program.{Program}
use Rattle.asp_model.specs.declared.program.Rule.{Rule}
use Rattle.asp_model.specs.Sets.{has}
use Rattle.asp_model.specs.Models.{rules_in_force, atoms_of, head_atoms}
use Rattle.asp_model.proofs.ReductLaws.{rules_in_force-heads}
use Rattle.asp_vars.proofs.PlaceLaws.{at_each}
use Rattle.asp_vars.proofs.SupportLaws.{body_of_nth_rule}
use Rattle.asp_vars.specs.Completion.{rule_nogoods}
use Rattle.asp_vars.specs.Numbering.{literal_of_body, literal_of_form, nth_body, nth_rule}
use Rattle.asp_complete.specs.Listed.{pure}
use Rattle.asp_complete.proofs.completion.add_rule_at.Goals as goal

pub add_rule-requires : goal.add_rule-requires
add_rule-requires c =
    let p : Program = c.args.compiled.now in
    let none : Rule = record { head = head.Never; body = body.All [] } in
    subst (λ (x : Rule). AllByRecursion (λ a. has (atoms_of p) a ≡ true) (head_atoms x.head)) (sym c.rule-rule.ensures)
    (at_each (λ (x : Rule). AllByRecursion (λ a. has (atoms_of p) a ≡ true) (head_atoms x.head)) (rules_in_force p) c.args.rule none (rules_in_force-heads p) c.requires)

pub returns : goal.returns
returns c =
    let p : Program = c.args.compiled.now in
    let r : Rule = nth_rule p c.args.rule in
    let form : literal_of_form p (nth_body p c.rule_body.result) ≡ literal_of_body p r.body =
    ap (λ (n : ℕ). literal_of_form p (nth_body p n)) c.rule_body.ensures.place ∙ ap (literal_of_form p) (body_of_nth_rule p c.args.rule c.requires) in
    let lit : c.body_lit-body.result ≡ literal_of_body p r.body = c.body_lit-body.ensures.lit ∙ form in
    subst (λ (x : Rule). OnOk c.add_rule.result (c.add_rule.new.nogoods.items ≡ c.args.nogoods.now.items ++ map pure (rule_nogoods p (literal_of_body p r.body) x.head))) c.rule-rule.ensures
    (rw lit at c.add_rule.ensures)
