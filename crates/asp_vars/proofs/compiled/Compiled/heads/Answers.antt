use Rattle.std.proofs.Common.{◌≡◌, ℕ, List, [], All, map, get_or, sym, ap, ◌∙◌, subst}
use Rattle.std.proofs.lemmas.List.{get_or-map}
use Rattle.asp_model.specs.declared.program.Body.TheVariants as body
use Rattle.asp_model.specs.declared.program.Program.{Program}
use Rattle.asp_vars.specs.Numbering.{bodies_of, nth_body}
use Rattle.asp_vars.specs.Tabled.{heads_of, IsAtomVar}
use Rattle.asp_vars.proofs.RowLaws.{all_of, head_vars}
use Rattle.asp_vars.proofs.compiled.Compiled.heads.Goals as goal

row_is : (c : goal.After-row) → c.row.result.now ≡ heads_of c.args.self.now (nth_body c.args.self.now c.args.body)
row_is c =
    let p : Program = c.args.self.now in
    let table : c.self.inside.tables.heads ≡ map (heads_of p) (bodies_of p) =
    subst (λ (q : Program). c.self.inside.tables.heads ≡ map (heads_of q) (bodies_of q)) c.self.view_is c.self.invariant.heads in
    c.row.ensures ∙ ap (λ (t : List (List ℕ)). get_or t c.args.body []) table ∙ get_or-map (heads_of p) (bodies_of p) c.args.body (body.All []) [] c.requires

pub returns-clause-heads : goal.returns-clause-heads
returns-clause-heads c = row_is c

pub returns-clause-atoms : goal.returns-clause-atoms
returns-clause-atoms c =
    let p : Program = c.args.self.now in
    subst (λ (vs : List ℕ). All (IsAtomVar p) vs) (sym (row_is c)) (all_of (IsAtomVar p) (heads_of p (nth_body p c.args.body)) (head_vars p (nth_body p c.args.body)))
