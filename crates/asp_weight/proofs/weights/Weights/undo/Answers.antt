use Rattle.std.proofs.Common.{◌∙◌, None, slice_set, ap}
use Rattle.asp_weight.proofs.StepLaws.{can_lower, undone, kept_as}
use Rattle.asp_weight.proofs.weights.Weights.undo.Goals as goal

pub lower-requires : goal.lower-requires
lower-requires c =
    let v = rw (← c.self.view_is) at c.requires.var in
    let e = rw (← c.self.view_is) at c.requires.holds in
    can_lower c.self.inside.program.value c.self.inside.values c.self.inside.shapes.items c.self.inside.rows c.self.inside.places c.self.inside.tallies.tallies c.args.lit c.self.invariant v.1 e

pub invariant_of-self : goal.invariant_of-self
invariant_of-self c =
    let v = rw (← c.self.view_is) at c.requires.var in
    let e = rw (← c.self.view_is) at c.requires.holds in
    kept_as c.self.inside.program.value _ c.unset.new.self c.self.inside.shapes.items c.self.inside.rows c.self.inside.places _ c.lower.new.tallies.tallies
    (undone c.self.inside.program.value c.self.inside.values c.self.inside.shapes.items c.self.inside.rows c.self.inside.places c.self.inside.tallies.tallies c.args.lit c.self.invariant v.1 e)
    (c.unset.ensures ∙ ap (λ u. slice_set c.self.inside.values u None) c.var.ensures) c.lower.ensures
