use Rattle.std.proofs.Common.{◌≡◌, ℕ, true, [], ltb, length, ap, ◌∙◌}
use Rattle.std.specs.List.{list_any}
use Rattle.asp_model.specs.declared.program.Body.{Body}
use Rattle.asp_model.specs.declared.program.Body.TheVariants as body
use Rattle.asp_model.specs.declared.program.Program.{Program}
use Rattle.asp_model.specs.Models.{atoms_of}
use Rattle.asp_vars.specs.Literals.{Literal}
use Rattle.asp_vars.specs.Numbering.{body_eq, bodies_of, nth_body}
use Rattle.asp_vars.proofs.HeldLaws.{apart_by_var}
use Rattle.asp_vars.proofs.PlaceLaws.{at_each}
use Rattle.asp_vars.proofs.StandingLaws.{bodies_of-themselves}
use Rattle.asp_vars.proofs.compiled.Compiled.is_apart.Goals as goal

pub returns : goal.returns
returns c =
    let p : Program = c.args.self.now in
    ap (λ (n : ℕ). ltb n c.var.result) c.atom_count.ensures.count
    ∙ ap (λ (n : ℕ). ltb (length (atoms_of p)) n) (c.var.ensures ∙ ap (λ (l : Literal). l.var) c.body_lit.ensures.lit)
    ∙ apart_by_var p (nth_body p c.args.body) (at_each (λ (b : Body). list_any (body_eq b) (bodies_of p) ≡ true) (bodies_of p) c.args.body (body.All []) (bodies_of-themselves p) c.requires)
