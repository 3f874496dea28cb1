use Rattle.std.proofs.Common.{◌∙◌, ap, arith}
use Rattle.asp_trail.proofs.EntryLaws.{same_default}
use Rattle.asp_trail.proofs.TrailLaws.{level_found}
use Rattle.asp_trail.specs.Trails.{Trailed}
use Rattle.asp_trail.specs.Entries.{level_or_zero, entry_of}
use Rattle.asp_trail.proofs.trail.Trail.level_of.Goals as goal

pub returns : goal.returns
returns c =
    let has = rw (← c.self.view_is) at c.requires.has in
    let small = rw (← c.self.view_is) at c.requires.small in
    let found =
    level_found c.self.inside.vars c.self.inside.entries.items c.self.inside.values c.self.inside.places.items c.self.inside.levels.items
    c.self.inside.seen c.args.var c.self.invariant has in
    c.index-level.ensures
    ∙ (same_default c.self.inside.levels.items c.args.var c.index-level.result.now 0 (omega (arith, small, c.self.invariant.leveled))
    ∙ (found ∙ ap (λ (t : Trailed). level_or_zero (entry_of t.entries c.args.var)) c.self.view_is))
