use Rattle.asp_weight.proofs.StepLaws.{can_raise, assigned, kept_as}
use Rattle.asp_weight.proofs.weights.Weights.assign.Goals as goal

pub raise-requires : goal.raise-requires
raise-requires c =
    let v = rw (← c.self.view_is) at c.requires.var in
    let n = rw (← c.self.view_is) at c.requires.none in
    can_raise c.self.inside.program.value c.self.inside.values c.self.inside.shapes.items c.self.inside.rows c.self.inside.places
    c.self.inside.tallies.tallies c.args.lit.var c.args.lit.truth c.self.invariant v.1 n

pub invariant_of-self : goal.invariant_of-self
invariant_of-self c =
    let v = rw (← c.self.view_is) at c.requires.var in
    let n = rw (← c.self.view_is) at c.requires.none in
    kept_as c.self.inside.program.value _ c.set.new.self c.self.inside.shapes.items c.self.inside.rows c.self.inside.places _ c.raise.new.tallies.tallies
    (assigned c.self.inside.program.value c.self.inside.values c.self.inside.shapes.items c.self.inside.rows c.self.inside.places
    c.self.inside.tallies.tallies c.args.lit.var c.args.lit.truth c.self.invariant v.1 n)
    c.set.ensures c.raise.ensures
