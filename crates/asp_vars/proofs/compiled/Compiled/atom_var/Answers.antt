use Rattle.std.proofs.Common.{◌≡◌, Some, None, cond, ap, ◌∙◌, subst, ℕ}
use Rattle.asp_model.specs.declared.program.Program.{Program}
use Rattle.asp_vars.specs.Numbering.{var_of_atom}
use Rattle.asp_vars.specs.Tabled.{IsAtomVar}
use Rattle.asp_vars.proofs.RowLaws.{atom_var}
use Rattle.asp_vars.proofs.compiled.Compiled.atom_var.Goals as goal

pub returns-clause-atom : goal.returns-clause-atom
returns-clause-atom c =
    let p : Program = c.args.self.now in
    let found : Some c.in-Some.var ≡ Some (var_of_atom p c.args.atom) =
    c.in-Some.ensures ∙ ap (λ b. cond b (Some (var_of_atom p c.args.atom)) None) c.requires in
    let is : var_of_atom p c.args.atom ≡ c.in-Some.var = cc found in
    subst (λ (v : ℕ). IsAtomVar p v) is (atom_var p c.args.atom c.requires)
