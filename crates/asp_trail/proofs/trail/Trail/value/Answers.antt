use Rattle.std.proofs.Common.{◌<◌, length, sym, ◌∙◌, subst}
use Rattle.asp_trail.specs.Trails.{Trailed}
use Rattle.asp_trail.proofs.TrailLaws.{open_room}
use Rattle.asp_trail.proofs.trail.Trail.value.Goals as goal

pub returns-clause-rest : goal.returns-clause-rest
returns-clause-rest c p n =
    let small = rw (← c.self.view_is) at c.requires in
    let none = sym c.value.ensures ∙ n in
    let few = open_room c.self.inside.vars c.self.inside.entries.items c.self.inside.values c.self.inside.places.items c.self.inside.levels.items c.self.inside.seen c.args.var c.self.invariant p small
    (rw c.self.invariant.values_are at none) in
    subst (λ (t : Trailed). length t.entries < t.vars) c.self.view_is few
