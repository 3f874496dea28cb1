use Rattle.std.proofs.Common.{false, Bool, List, Option, None, set, ap, ◌∙◌, arith}
use Rattle.asp_vars.proofs.FalseLaws.{half, values_set}
use Rattle.asp_vars.proofs.assign.Assign.unset.Goals as goal

pub index_mut-requires : goal.index_mut-requires
index_mut-requires c = omega (arith, half c.self.inside.falses.items c.args.var c.args.self.now c.self.view_is c.requires, c.self.invariant.even, c.self.inside.falses.ok.0)

pub index_mut-requires-2 : goal.index_mut-requires-2
index_mut-requires-2 c = omega (arith, half c.self.inside.falses.items c.args.var c.args.self.now c.self.view_is c.requires, c.self.invariant.even, c.self.inside.falses.ok.0)

pub returns : goal.returns
returns c =
    let f = c.self.inside.falses.items in
    let small = half f c.args.var c.args.self.now c.self.view_is c.requires in
    values_set f c.args.var false false c.self.invariant small ∙ ap (λ (a : List (Option Bool)). set a c.args.var None) c.self.view_is
