use Rattle.std.proofs.Common.{◌∙◌, ◌++◌, ◌∷◌, [], ap, arith}
use Rattle.std.specs.Int.{w32}
use Rattle.std.proofs.lemmas.Int.{to_z-of_z}
use mir.Val.{SFits}
use Rattle.asp_model.specs.Models.{atoms_of}
use Rattle.asp_vars.specs.Literals.{Literal}
use Rattle.asp_vars.specs.Numbering.{nth_body, var_of_form}
use Rattle.asp_vars.proofs.HeldLaws.{literal_by-weighed}
use Rattle.asp_weight.specs.Rows.{first_weighed, total_of}
use Rattle.asp_weight.proofs.BuildLaws.{rows_pushed, next_weighed, is_row}
use Rattle.asp_weight.proofs.rows.Rows.with_body.Goals as goal

pub returns : goal.returns
returns c =
    let p = c.args.compiled.now in
    let b = nth_body p c.args.body in
    let f : SFits w32 c.args.bound = c.ranges.bound in
    let is = rw (to_z-of_z w32 c.args.bound f) at c.shape-shape.ensures in
    rows_pushed p (first_weighed p c.args.body) _ c.args.self.shapes.items c.push.new.self.items c.args.self.rows c.in_ok-rows.rows b c.shape-shape.result c.in_ok-row.row.items
    c.requires.rows
    (is_row p b c.args.bound c.shape-shape.result c.in_ok-row.row.items c.in_ok-total.total c.var.result c.requires.bound c.in_ok-row.ensures
    (c.in_ok-total.ensures.0 ∙ ap total_of c.as_slice.ensures.value, c.in_ok-total.ensures.1)
    (c.var.ensures ∙ ap (λ (l : Literal). l.var)
    (c.body_lit.ensures.lit ∙ literal_by-weighed (atoms_of p) (var_of_form p b) b c.args.bound c.requires.bound))
    (omega (arith, c.var.ensures, c.body_lit.ensures.literal.0), omega (arith, c.var.ensures, c.body_lit.ensures.literal.1)) is)
    (next_weighed p c.args.body c.args.bound c.requires.body c.requires.bound)
    c.in_ok-push.ensures.items
    (c.in_ok-rows.ensures ∙ ap (λ xs. c.args.self.rows ++ xs ∷ []) c.as_slice-2.ensures.value)
