use Rattle.std.proofs.Common.{◌≡◌, ◌<◌, ℕ, map, length, sym, ◌∙◌, subst}
use Rattle.asp_model.specs.declared.program.Program.{Program}
use Rattle.asp_model.specs.Models.{rules_in_force}
use Rattle.asp_vars.specs.Numbering.{bodies_of, place_of_body}
use Rattle.asp_vars.proofs.PlaceLaws.{place_of_nth_rule}
use Rattle.asp_vars.proofs.RowLaws.{rule_body_at}
use Rattle.asp_vars.proofs.compiled.Compiled.rule_body.Goals as goal

pub returns-clause-place : goal.returns-clause-place
returns-clause-place c =
    let places = subst (λ (q : Program). c.self.inside.tables.rule_bodies.items ≡ map (λ r. place_of_body q r.body) (rules_in_force q)) c.self.view_is c.self.invariant.rule_bodies in
    c.index.ensures ∙ rule_body_at c.args.self.now c.self.inside.tables.rule_bodies.items c.args.rule c.index.result.now places c.requires

pub returns-clause-body : goal.returns-clause-body
returns-clause-body c =
    let places = subst (λ (q : Program). c.self.inside.tables.rule_bodies.items ≡ map (λ r. place_of_body q r.body) (rules_in_force q)) c.self.view_is c.self.invariant.rule_bodies in
    subst (λ (n : ℕ). n < length (bodies_of c.args.self.now))
    (sym (c.index.ensures ∙ rule_body_at c.args.self.now c.self.inside.tables.rule_bodies.items c.args.rule c.index.result.now places c.requires))
    (place_of_nth_rule c.args.self.now c.args.rule c.requires)
