use Rattle.std.proofs.Common.{subst, List}
use Rattle.asp_trail.specs.declared.trail.Entry.{Entry}
use Rattle.asp_trail.specs.Trails.{IsTrail}
use Rattle.asp_trail.proofs.TrailLaws.{less_entry}
use Rattle.asp_trail.proofs.trail.Trail.pop.Goals as goal

pub invariant_of-self : goal.invariant_of-self
invariant_of-self c =
    let t = subst (λ (es : List Entry). IsTrail c.self.inside.vars es c.self.inside.values c.self.inside.places.items c.self.inside.levels.items
    c.self.inside.seen) c.in-Some.ensures.items c.self.invariant in
    rw (c.unset.ensures, c.var.ensures, c.min-self-inside.ensures, c.len.ensures)
    (less_entry c.self.inside.vars c.pop.new.self.items c.self.inside.values c.self.inside.places.items c.self.inside.levels.items c.self.inside.seen c.in-Some.entry _ c.pop.new.self.ok.0 t)
