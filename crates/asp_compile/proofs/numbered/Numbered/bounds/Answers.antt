use Rattle.std.proofs.Common.{map, ap, ◌∙◌}
use Rattle.asp_model.specs.declared.program.Program.{Program}
use Rattle.asp_vars.specs.Numbering.{bodies_of}
use Rattle.asp_vars.specs.Tabled.{bound_of}
use Rattle.asp_compile.specs.Forms.{body_of}
use Rattle.asp_compile.proofs.NumberedLaws.{of_forms}
use Rattle.asp_compile.proofs.numbered.Numbered.bounds.Goals as goal

pub returns : goal.returns
returns c =
    c.in_ok-list.ensures
    ∙ of_forms c.self.inside.program body_of bound_of c.forms.result.now (c.forms.ensures ∙ c.self.invariant.bodies)
    ∙ ap (λ (p : Program). map bound_of (bodies_of p)) c.self.view_is
