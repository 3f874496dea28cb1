use Rattle.std.proofs.Common.{◌≡◌, ◌<◌, ◌+◌, ◌*◌, ◌^◌, ℕ, [], ◌∷◌, All, length, sym, ap, ◌∙◌, subst, arith}
use Rattle.std.proofs.lemmas.List.{length-map}
use Rattle.asp_model.specs.declared.program.Program.{Program}
use Rattle.asp_table.specs.Columns.{IsRead}
use Rattle.asp_vars.specs.Codes.{code_of}
use Rattle.asp_vars.specs.Literals.{Literal}
use Rattle.asp_vars.specs.Numbering.{bodies_of, number_count, literal_of_form}
use Rattle.asp_compile.proofs.NumberedLaws.{shared_are, held_within}
use Rattle.asp_compile.proofs.numbered.Numbered.shared.Goals as goal

pub columns-requires-clause-within : goal.columns-requires-clause-within
columns-requires-clause-within c =
    let p : Program = c.args.self.now in
    subst (λ (n : ℕ). All (λ row. All (λ k. k < 2 * n + 2) row) c.in_ok-codes.codes) (sym c.requires.vars) (held_within p c.in_ok-codes.codes c.args.held.now c.in_ok-codes.ensures c.requires.held)

pub columns-requires-clause-few : goal.columns-requires-clause-few
columns-requires-clause-few c =
    let p : Program = c.args.self.now in
    let few : number_count p < 2 ^ 31 = subst (λ (q : Program). number_count q < 2 ^ 31) c.self.view_is c.self.invariant.few in
    let codes : length c.in_ok-codes.codes ≡ length c.args.held.now = ap length c.in_ok-codes.ensures ∙ length-map c.args.held.now (λ (l : Literal). code_of l ∷ []) in
    let held : length c.args.held.now ≡ length (bodies_of p) = ap length c.requires.held ∙ length-map (bodies_of p) (literal_of_form p) in
    omega (arith, few, codes, held)

pub returns : goal.returns
returns c =
    let p : Program = c.args.self.now in
    shared_are p c.in_ok-codes.codes c.args.held.now c.in_ok-rows.rows c.in_ok-codes.ensures c.requires.held
    (subst (λ (n : ℕ). IsRead c.in_ok-rows.rows (2 * n + 2) c.in_ok-codes.codes) c.requires.vars c.in_ok-rows.ensures)
