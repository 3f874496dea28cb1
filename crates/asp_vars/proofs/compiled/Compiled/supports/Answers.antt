use Rattle.std.proofs.Common.{◌≡◌, ◌+◌, ◌-◌, ◌<◌, ℕ, List, [], All, length, get_or, sym, ap, ◌∙◌, subst, arith}
use Rattle.asp_model.specs.declared.program.Program.{Program}
use Rattle.asp_model.specs.Models.{atoms_of}
use Rattle.asp_vars.specs.Numbering.{nth_atom}
use Rattle.asp_vars.specs.Completion.{supports}
use Rattle.asp_vars.specs.Tabled.{IsBodyNumber}
use Rattle.asp_vars.proofs.RowLaws.{all_of, support_numbers}
use Rattle.asp_vars.proofs.compiled.Compiled.supports.Goals as goal

row_is : (c : goal.After-row) → c.row.result.now ≡ supports c.args.self.now (nth_atom c.args.self.now (c.args.var - 1))
row_is c =
    let p : Program = c.args.self.now in
    let t : List (List ℕ) = c.self.inside.tables.supports in
    let i : ℕ = c.args.var - 1 in
    let rows : (i : ℕ) → i < length (atoms_of p) → get_or t (i + 1) [] ≡ supports p (nth_atom p i) =
    subst (λ (q : Program). (i : ℕ) → i < length (atoms_of q) → get_or t (i + 1) [] ≡ supports q (nth_atom q i)) c.self.view_is c.self.invariant.supports.row in
    let lt : i < length (atoms_of p) = omega (arith, c.requires) in
    let at : c.args.var ≡ i + 1 = omega (arith, c.requires) in
    c.row.ensures ∙ ap (λ (v : ℕ). get_or t v []) at ∙ rows i lt

pub returns-clause-supports : goal.returns-clause-supports
returns-clause-supports c = row_is c

pub returns-clause-bodies : goal.returns-clause-bodies
returns-clause-bodies c =
    let p : Program = c.args.self.now in
    subst (λ (vs : List ℕ). All (IsBodyNumber p) vs) (sym (row_is c)) (all_of (IsBodyNumber p) (supports p (nth_atom p (c.args.var - 1))) (support_numbers p (nth_atom p (c.args.var - 1))))
