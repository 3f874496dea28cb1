use Rattle.std.proofs.Common.{◌≡◌, List, [], map, get_or, ap, ◌∙◌, subst}
use Rattle.std.specs.Prelude.{Bool}
use Rattle.std.proofs.lemmas.List.{get_or-map}
use Rattle.asp_model.specs.declared.program.Body.TheVariants as body
use Rattle.asp_model.specs.declared.program.Program.{Program}
use Rattle.asp_vars.specs.Numbering.{bodies_of}
use Rattle.asp_vars.specs.Completion.{is_barred}
use Rattle.asp_vars.proofs.compiled.Compiled.is_barred.Goals as goal

pub returns : goal.returns
returns c =
    let p : Program = c.args.self.now in
    let marks : c.self.inside.tables.barred.items ≡ map (is_barred p) (bodies_of p) =
    subst (λ (q : Program). c.self.inside.tables.barred.items ≡ map (is_barred q) (bodies_of q)) c.self.view_is c.self.invariant.barred in
    c.index.ensures ∙ ap (λ (t : List Bool). get_or t c.args.body c.index.result.now) marks ∙ get_or-map (is_barred p) (bodies_of p) c.args.body (body.All []) c.index.result.now c.requires
