use Rattle.std.proofs.Common.{subst}
use Rattle.asp_trail.specs.Trails.{Trailed, IsOrdered}
use Rattle.asp_trail.proofs.TrailLaws.{ordered}
use Rattle.asp_trail.proofs.trail.Trail.len.Goals as goal

pub returns-clause-ordered : goal.returns-clause-ordered
returns-clause-ordered c =
    subst (λ (t : Trailed). IsOrdered t.vars t.entries) c.self.view_is
    (ordered c.self.inside.vars c.self.inside.entries.items c.self.inside.values c.self.inside.places.items c.self.inside.levels.items c.self.inside.seen c.self.invariant)
