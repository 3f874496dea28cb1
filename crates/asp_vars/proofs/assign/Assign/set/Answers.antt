use Rattle.std.proofs.Common.{Bool, List, Option, Some, not, set, ap, ◌∙◌, arith}
use Rattle.asp_vars.specs.Falses.{values_of}
use Rattle.asp_vars.proofs.FalseLaws.{half, values_set, value_by_truth}
use Rattle.asp_vars.proofs.assign.Assign.set.Goals as goal

pub index_mut-requires : goal.index_mut-requires
index_mut-requires c = omega (arith, c.var.ensures, half c.self.inside.falses.items c.args.lit.var c.args.self.now c.self.view_is c.requires, c.self.invariant.even, c.self.inside.falses.ok.0)

pub index_mut-requires-2 : goal.index_mut-requires-2
index_mut-requires-2 c = omega (arith, c.var.ensures, half c.self.inside.falses.items c.args.lit.var c.args.self.now c.self.view_is c.requires, c.self.invariant.even, c.self.inside.falses.ok.0)

pub returns : goal.returns
returns c =
    let f = c.self.inside.falses.items in
    let v = c.args.lit.var in
    let t = c.args.lit.truth in
    let small = half f v c.args.self.now c.self.view_is c.requires in
    rw (c.var.ensures, c.truth-truth.ensures)
    (values_set f v (not t) t c.self.invariant small
    ∙ (ap (λ (o : Option Bool). set (values_of f) v o) (value_by_truth t) ∙ ap (λ (a : List (Option Bool)). set a v (Some t)) c.self.view_is))
