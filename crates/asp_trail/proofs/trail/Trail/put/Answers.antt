use Rattle.asp_trail.proofs.TrailLaws.{new_entry_at}
use Rattle.asp_trail.proofs.trail.Trail.put.Goals as goal

pub invariant_of-self : goal.invariant_of-self
invariant_of-self c =
    let v = rw (← c.self.view_is) at c.requires.var in
    let n = rw (← c.self.view_is) at c.requires.none in
    let lo = rw (← c.self.view_is) at c.requires.level in
    let hi = rw (← c.self.view_is) at c.requires.step in
    let first = rw (← c.self.view_is) at c.requires.decided in
    let place = rw (← c.self.view_is) at c.next_place-place.ensures in
    rw (c.push_reserved.ensures.items, c.set.ensures, c.var-var.ensures)
    (new_entry_at c.self.inside.vars c.self.inside.entries.items c.self.inside.values c.self.inside.places.items c.self.inside.levels.items
    c.self.inside.seen c.args.entry _ place c.self.invariant v n lo hi first)
