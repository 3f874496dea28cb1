use Rattle.std.proofs.Common.{◌≡◌, ◌<◌, ℕ, true, List, [], map, length, get_or, sym, ap, ◌∙◌, subst}
use Rattle.std.specs.List.{list_any}
use Rattle.std.proofs.lemmas.List.{get_or-map}
use Rattle.asp_model.specs.declared.program.Body.{Body}
use Rattle.asp_model.specs.declared.program.Body.TheVariants as body
use Rattle.asp_model.specs.declared.program.Program.{Program}
use Rattle.asp_vars.specs.Literals.{Literal}
use Rattle.asp_vars.specs.Numbering.{body_eq, bodies_of, literal_of_form, nth_body}
use Rattle.asp_vars.specs.Tabled.{IsLiteral}
use Rattle.asp_vars.proofs.PlaceLaws.{at_each}
use Rattle.asp_vars.proofs.RowLaws.{form_literal}
use Rattle.asp_vars.proofs.StandingLaws.{bodies_of-themselves}
use Rattle.asp_vars.proofs.compiled.Compiled.body_lit.Goals as goal

at : (p : Program) (held : List Literal) (j : ℕ) (l d : Literal) → held ≡ map (literal_of_form p) (bodies_of p) → j < length (bodies_of p) → l ≡ get_or held j d → l ≡ literal_of_form p (nth_body p j)
at p held j l d e lt is = is ∙ ap (λ (t : List Literal). get_or t j d) e ∙ get_or-map (literal_of_form p) (bodies_of p) j (body.All []) d lt

pub returns-clause-lit : goal.returns-clause-lit
returns-clause-lit c =
    at c.args.self.now c.self.inside.tables.held.items c.args.body c.index.result.now c.index.result.now
    (subst (λ (q : Program). c.self.inside.tables.held.items ≡ map (literal_of_form q) (bodies_of q)) c.self.view_is c.self.invariant.held) c.requires c.index.ensures

pub returns-clause-literal : goal.returns-clause-literal
returns-clause-literal c =
    let p : Program = c.args.self.now in
    subst (λ (l : Literal). IsLiteral p l)
    (sym (at p c.self.inside.tables.held.items c.args.body c.index.result.now c.index.result.now
    (subst (λ (q : Program). c.self.inside.tables.held.items ≡ map (literal_of_form q) (bodies_of q)) c.self.view_is c.self.invariant.held) c.requires c.index.ensures))
    (form_literal p (nth_body p c.args.body) (at_each (λ (b : Body). list_any (body_eq b) (bodies_of p) ≡ true) (bodies_of p) c.args.body (body.All []) (bodies_of-themselves p) c.requires))
