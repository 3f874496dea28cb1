use Rattle.std.proofs.Common.{◌≡◌, List, [], All, map, get_or, sym, ap, ◌∙◌, subst}
use Rattle.std.proofs.lemmas.List.{get_or-map}
use Rattle.asp_model.specs.declared.program.Body.TheVariants as body
use Rattle.asp_model.specs.declared.program.Program.{Program}
use Rattle.asp_vars.specs.Literals.{Literal}
use Rattle.asp_vars.specs.Numbering.{bodies_of, nth_body}
use Rattle.asp_vars.specs.Tabled.{form_literals, IsAtomVar}
use Rattle.asp_vars.proofs.RowLaws.{all_of, literal_vars}
use Rattle.asp_vars.proofs.compiled.Compiled.literals.Goals as goal

row_is : (c : goal.After-row) → c.row.result.now ≡ form_literals c.args.self.now (nth_body c.args.self.now c.args.body)
row_is c =
    let p : Program = c.args.self.now in
    let table : c.self.inside.tables.literals ≡ map (form_literals p) (bodies_of p) =
    subst (λ (q : Program). c.self.inside.tables.literals ≡ map (form_literals q) (bodies_of q)) c.self.view_is c.self.invariant.literals in
    c.row.ensures ∙ ap (λ (t : List (List Literal)). get_or t c.args.body []) table ∙ get_or-map (form_literals p) (bodies_of p) c.args.body (body.All []) [] c.requires

pub returns-clause-literals : goal.returns-clause-literals
returns-clause-literals c = row_is c

pub returns-clause-atoms : goal.returns-clause-atoms
returns-clause-atoms c =
    let p : Program = c.args.self.now in
    subst (λ (ls : List Literal). All (λ l. IsAtomVar p l.var) ls) (sym (row_is c))
    (all_of (λ (l : Literal). IsAtomVar p l.var) (form_literals p (nth_body p c.args.body)) (literal_vars p c.args.body c.requires))
