use Rattle.std.proofs.Common.{◌≡◌, ℕ, List, All, map, sym, ap, ◌∙◌, subst}
use Rattle.asp_model.specs.declared.program.Program.{Program}
use Rattle.asp_compile.specs.declared.form.Form.{Form}
use Rattle.asp_model.specs.Models.{atoms_of}
use Rattle.asp_vars.specs.Numbering.{bodies_of}
use Rattle.asp_vars.specs.Tabled.{form_literals, literals_in, Stands}
use Rattle.asp_compile.specs.Forms.{body_of}
use Rattle.asp_compile.proofs.NumberedLaws.{of_forms, forms_stand}
use Rattle.asp_compile.proofs.numbered.Numbered.literals.Goals as goal

pub literal_rows-requires-clause-stand : goal.literal_rows-requires-clause-stand
literal_rows-requires-clause-stand c =
    let p : Program = c.self.inside.program in
    let atoms : c.as_slice.result.now ≡ atoms_of p = c.as_slice.ensures.value ∙ c.self.invariant.atoms in
    subst (λ (L : List ℕ). All (λ f. Stands L (body_of f)) c.forms.result.now) (sym atoms) (forms_stand p body_of c.forms.result.now (c.forms.ensures ∙ c.self.invariant.bodies))

pub returns : goal.returns
returns c =
    let p : Program = c.self.inside.program in
    let atoms : c.as_slice.result.now ≡ atoms_of p = c.as_slice.ensures.value ∙ c.self.invariant.atoms in
    c.in_ok-rows.ensures
    ∙ ap (λ (L : List ℕ). map (λ (f : Form). literals_in L (body_of f)) c.forms.result.now) atoms
    ∙ of_forms p body_of (form_literals p) c.forms.result.now (c.forms.ensures ∙ c.self.invariant.bodies)
    ∙ ap (λ (q : Program). map (form_literals q) (bodies_of q)) c.self.view_is
